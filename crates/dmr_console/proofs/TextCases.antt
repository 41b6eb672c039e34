-- Worked values of the texts of replies.
use Rattle.std.proofs.Common.{◌≡◌, [], ◌∷◌, Some, None, true, false, codes, refl}
use Rattle.std.specs.Fmt.{digits}
use Rattle.dmr_core.specs.declared.reply.State.TheVariants as state
use Rattle.dmr_core.specs.declared.reply.Reply.TheVariants.{Status, Radios, Calls, Lines, Slots, Done, NotRegistered, Busy, NoCall}
use Rattle.dmr_core.specs.declared.reply.Reply.TheVariants.{NoCarrier}
use Rattle.dmr_console.specs.Texts.{text_of_reply}

status_aloha : text_of_reply (Status 2 1001 0 10 3 None) ≡ codes "status carriers 2 radios 1001 asks 0 lines 10 calls 3 fill aloha\n"
unfolding digits
status_aloha = refl

status_move : text_of_reply (Status 1 0 0 0 0 (Some 4094)) ≡ codes "status carriers 1 radios 0 asks 0 lines 0 calls 0 fill move 4094\n"
unfolding digits
status_move = refl

no_radios : text_of_reply (Radios []) ≡ codes "end\n"
no_radios = refl

radios : text_of_reply (Radios (91 ∷ 16777215 ∷ [])) ≡ codes "radio 91\nradio 16777215\nend\n"
unfolding digits
radios = refl

calls : text_of_reply (Calls (record { slot = record { carrier = 15; slot = 1 }; source = 1001; target = 91; group = true }
    ∷ record { slot = record { carrier = 0; slot = 0 }; source = 1001; target = 1002; group = false } ∷ []))
    ≡ codes "call 15 1 group 91 from 1001\ncall 0 0 radio 1002 from 1001\nend\n"
unfolding digits
calls = refl

-- places count on from the first
lines : text_of_reply (Lines 9 (record { source = 1001; target = 91; group = true } ∷ record
    { source = 1002; target = 1003; group = false } ∷ []))
    ≡ codes "line 9 group 91 from 1001\nline 10 radio 1003 from 1002\nend\n"
unfolding digits
lines = refl

slots : text_of_reply (Slots (record { slot = record { carrier = 0; slot = 0 }; state = state.Control } ∷ record
    { slot = record { carrier = 0; slot = 1 }; state = state.Waiting }
    ∷ record { slot = record { carrier = 15; slot = 0 }; state = state.Down } ∷ record
    { slot = record { carrier = 15; slot = 1 }; state = state.Call }
    ∷ record { slot = record { carrier = 7; slot = 1 }; state = state.Free } ∷ []))
    ≡ codes "slot 0 0 control\nslot 0 1 waiting\nslot 15 0 down\nslot 15 1 call\nslot 7 1 free\nend\n"
unfolding digits
slots = refl

done : text_of_reply Done ≡ codes "ok\n"
done = refl

not_registered : text_of_reply NotRegistered ≡ codes "error not registered\n"
not_registered = refl

busy : text_of_reply Busy ≡ codes "error busy\n"
busy = refl

no_call : text_of_reply NoCall ≡ codes "error no call\n"
no_call = refl

no_carrier : text_of_reply NoCarrier ≡ codes "error no carrier\n"
no_carrier = refl
