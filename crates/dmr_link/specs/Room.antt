-- The most octets that can answer octets, and how a text grows for them. Only contracts inside this crate name these
-- definitions; nothing above depends on them.
use Rattle.std.specs.Prelude.{◌≡◌, ◌⊎◌, ℕ, ◌+◌, ◌*◌, ◌<◌, ◌≤◌, max, Bool, true, false, is_some}
use Rattle.std.specs.Prelude.{List, [], ◌∷◌, fold}
use Rattle.dmr_core.specs.declared.event.Event.{Event}
use Rattle.dmr_core.specs.declared.event.Event.TheVariants.{Poll}
use Rattle.dmr_link.specs.Console.{ends_in}
use Rattle.dmr_link.specs.Notices.{Notice}
use Rattle.dmr_link.specs.Notices.{Happened, Accepted, Refused, Rejected}
use Rattle.dmr_link.specs.Numbering.{first_number}
use Rattle.dmr_frames.specs.Versions.{version_octet}

-- the length in octets of WELCOME, and of REFUSED
abbrev pub most_to_hello : ℕ
most_to_hello = 3

-- the length in octets of a TX: 28 without a number, as in version 1 of the link, and 29 with one, as in version 2
abbrev pub length_of_tx : Bool → ℕ
length_of_tx false = 28
length_of_tx true = 29

-- the most octets that answer a poll: a TX in each of two slots, and DONE, of 2 octets. 58 in version 1, 60 in version
-- 2
abbrev pub most_to_poll : Bool → ℕ
most_to_poll false = 58
most_to_poll true = 60

-- the most octets that answer an event, by whether TX are numbered: only a poll is answered on a carrier's connection
abbrev pub most_at : Bool → Event → ℕ
most_at numbered (Poll c) = most_to_poll numbered
most_at numbered event = 0

-- the most octets that answer a notice, by whether TX are numbered
abbrev pub most_of : Bool → Notice → ℕ
most_of numbered (Happened event) = most_at numbered event
most_of numbered (Accepted c version) = most_to_hello
most_of numbered (Refused c refusal) = most_to_hello
most_of numbered (Rejected fault) = 0

-- whether TX are numbered after a notice: the version of a HELLO that is accepted decides
abbrev pub numbered_after : Bool → Notice → Bool
numbered_after numbered (Accepted c version) = is_some (first_number (version_octet version))
numbered_after numbered other = numbered

-- whether TX are numbered after notices
abbrev pub numbered_after_all : Bool → List Notice → Bool
numbered_after_all numbered notices = fold numbered_after numbered notices

-- the most octets that answer notices, one after another
abbrev pub most_in : Bool → List Notice → ℕ
most_in numbered [] = 0
most_in numbered (notice ∷ notices) =
    most_of numbered notice + most_in (numbered_after numbered notice) notices

-- the most octets that answer an operator's octets: 1,024 for each line that they end
abbrev pub most_to_lines : List ℕ → ℕ
most_to_lines octets = 1024 * ends_in octets

-- how a text of this length makes room for more octets: `octets` is their number, and `before` and `after` are the
-- text's capacity. If the text has room for them, its capacity stays. If not, the text grows by their number, or, to
-- grow less often, by its own length if that is more
abbrev pub MakesRoom : (length octets before after : ℕ) → Type 0
MakesRoom length octets before after =
    ((length + octets ≤ before) × (after ≡ before))
    ⊎ ((before < length + octets)
    × ((after ≡ length + octets) ⊎ (after ≡ length + max length octets)))
