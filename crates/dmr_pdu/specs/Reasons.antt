-- The reason codes of acknowledgements (TS 102 361-4, clause 7.2) by their octets, for clauses: a clause cannot name a
-- constant of `Reason`, which says what each answers. The octets are this project's profile.
use Rattle.std.specs.Prelude.{ℕ, ◌/◌, ◌==◌, Bool}

-- an acknowledgement with such a reason refuses a request
abbrev pub refuses : ℕ → Bool
refuses reason = reason / 16 == 2

abbrev pub not_supported : ℕ
not_supported = 0x20

abbrev pub perm_user_refused : ℕ
perm_user_refused = 0x21

abbrev pub transient_sys_refused : ℕ
transient_sys_refused = 0x23

abbrev pub noreg_ms_away : ℕ
noreg_ms_away = 0x24

abbrev pub sysbusy_refused : ℕ
sysbusy_refused = 0x27

abbrev pub call_cancel_refused : ℕ
call_cancel_refused = 0x29

abbrev pub reg_refused : ℕ
reg_refused = 0x2A

abbrev pub reg_denied : ℕ
reg_denied = 0x2B

abbrev pub ms_not_registered : ℕ
ms_not_registered = 0x2D

abbrev pub called_party_busy : ℕ
called_party_busy = 0x2E

abbrev pub group_not_allowed : ℕ
group_not_allowed = 0x2F

abbrev pub ms_accepted : ℕ
ms_accepted = 0x44

abbrev pub message_accepted : ℕ
message_accepted = 0x60

abbrev pub reg_accepted : ℕ
reg_accepted = 0x62

abbrev pub queued_for_resource : ℕ
queued_for_resource = 0xA0

abbrev pub wait : ℕ
wait = 0xE0
