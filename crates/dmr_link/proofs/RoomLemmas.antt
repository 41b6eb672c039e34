-- Room for the octets that answer octets.
use Rattle.std.proofs.Common.{◌≡◌, Bool, true, false, ℕ, ◌+◌, ◌-◌, ◌*◌, ◌^◌, ◌≤◌, min, List, Option, Some, None, length, take, drop, refl}
use Rattle.std.proofs.Common.{sym, ap, ◌∙◌, arith}
use Rattle.std.specs.Prelude.{is_some}
use Rattle.std.proofs.lemmas.Bool.{false≢true}
use Rattle.std.proofs.lemmas.List.{drop_all}
use Rattle.dmr_bits.specs.Words.{word_octets}
use Rattle.dmr_bits.proofs.Laws.{word_octets-octets}
use Rattle.dmr_frames.specs.declared.frame.FrameOut.TheVariants.{Tx}
use Rattle.dmr_link.specs.Numbering.{frame_text}
use Rattle.dmr_link.specs.declared.connection.CarrierIdentity.{CarrierIdentity}
use Rattle.dmr_link.specs.declared.connection.Connection.{Connection}
use Rattle.dmr_link.specs.Notices.{list_of_notice}
use Rattle.dmr_link.specs.Notices.{Notice}
use Rattle.dmr_link.specs.Room.{length_of_tx, most_in, most_to_poll, numbered_after_all}
use Rattle.dmr_link.specs.Steps.{notices_of_octets, connection_after_octets}
use Rattle.dmr_link.proofs.OnePieceMore.{most_goes}

-- all octets were counted
pub room_whole : (room : ℕ) (who : CarrierIdentity) (numbered : Bool) (trial : Connection) (octets : List ℕ) (i whole : ℕ) →
    length octets ≤ i → room ≤ 2 ^ 64 - 1 →
    min (room + most_in numbered (notices_of_octets who trial (drop i octets))) (2 ^ 64 - 1) ≡ whole → room ≡ whole
room_whole room who numbered trial octets i whole past fits e =
    let none : most_in numbered (notices_of_octets who trial (drop i octets)) ≡ 0 =
    ap (λ (xs : List ℕ). most_in numbered (notices_of_octets who trial xs)) (drop_all i octets past) in
    counted room (most_in numbered (notices_of_octets who trial (drop i octets))) whole none fits e
  where
    counted : (room more whole : ℕ) → more ≡ 0 → room ≤ 2 ^ 64 - 1 → min (room + more) (2 ^ 64 - 1) ≡ whole → room ≡ whole
    counted room more whole none fits e = omega (arith, none, fits, e)

-- one more piece was counted
pub room_more : (who : CarrierIdentity) (numbered then : Bool) (k later : Connection) (octets : List ℕ) (i n : ℕ) (brought : Option Notice)
    (room most more whole : ℕ) → notices_of_octets who k (take n (drop i octets)) ≡ list_of_notice brought →
    later ≡ connection_after_octets who k (take n (drop i octets)) → then ≡ numbered_after_all numbered (list_of_notice brought) →
    most ≡ most_in numbered (list_of_notice brought) → more ≡ min (room + most) (2 ^ 64 - 1) →
    min (room + most_in numbered (notices_of_octets who k (drop i octets))) (2 ^ 64 - 1) ≡ whole →
    min (more + most_in then (notices_of_octets who later (drop (i + n) octets))) (2 ^ 64 - 1) ≡ whole
room_more who numbered then k later octets i n brought room most more whole brings left begun counted sum e =
    added room most more whole _ _
    (most_goes who who refl k later octets i n brought brings left numbered
    ∙ (λ j. sym counted j + most_in (sym begun j) (notices_of_octets who later (drop (i + n) octets)))) sum e
  where
    added : (room most more whole all rest : ℕ) → all ≡ most + rest → more ≡ min (room + most) (2 ^ 64 - 1) →
        min (room + all) (2 ^ 64 - 1) ≡ whole → min (more + rest) (2 ^ 64 - 1) ≡ whole
    added room most more whole all rest parts sum e = omega (arith, parts, sum, e)

-- ---- the TX of acts

-- the length of a TX
pub tx_length : (next : Option ℕ) (slot : ℕ) (word : List Bool) → length (frame_text next (Tx None slot word)) ≡ length_of_tx (is_some next)
tx_length None slot word = let it : length (word_octets word) ≡ 25 = (word_octets-octets word).len in omega (arith, it)
tx_length (Some n) slot word = let it : length (word_octets word) ≡ 25 = (word_octets-octets word).len in omega (arith, it)

-- one more TX is appended
pub few_more : (b c : Bool) → c ≡ b → (now later i : ℕ) → later ≤ now + length_of_tx c → now ≤ length_of_tx b * i →
    later ≤ length_of_tx b * (i + 1)
few_more true true same now later i put was = omega (arith, put, was)
few_more false false same now later i put was = omega (arith, put, was)
few_more true false same now later i put was = absurd (false≢true same)
few_more false true same now later i put was = absurd (false≢true (sym same))

-- after at most 16 TX the answer has room for one more frame
pub one_fits : (b : Bool) (now i : ℕ) → i ≤ 16 → now ≤ length_of_tx b * i → now + 29 ≤ 493
one_fits true now i le was = omega (arith, le, was)
one_fits false now i le was = omega (arith, le, was)

-- and then DONE
pub few_done : (b : Bool) (now later i : ℕ) → i ≤ 2 → later ≡ now + 2 → now ≤ length_of_tx b * i → later ≤ most_to_poll b
few_done true now later i two put was = omega (arith, two, put, was)
few_done false now later i two put was = omega (arith, two, put, was)
