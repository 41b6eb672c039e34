-- Worked values of streams of octets.
use Rattle.std.proofs.Common.{◌≡◌, ℕ, List, [], ◌∷◌, ◌++◌, replicate, codes, refl}
use Rattle.dmr_console.specs.declared.line_cutter.LineStep.{LineStep}
use Rattle.dmr_console.specs.declared.line_cutter.LineStep.TheVariants.{Line, TooLong}
use Rattle.dmr_console.specs.Lines.{lines_in, open_in}

abbrev line : List ℕ → LineStep
line octets = Line (record { items = octets })

nothing : lines_in [] ≡ []
nothing = refl

still_open : lines_in (codes "status") ≡ []
still_open = refl

open_octets : open_in (codes "stay\nsta") ≡ codes "sta"
open_octets = refl

two_lines : lines_in (codes "status\nstay\nslots") ≡ line (codes "status") ∷ line (codes "stay") ∷ []
two_lines = refl

one_cr_dropped : lines_in (codes "status\r\n") ≡ line (codes "status") ∷ []
one_cr_dropped = refl

just_one_cr_dropped : lines_in (codes "status\r\r\n") ≡ line (codes "status\r") ∷ []
just_one_cr_dropped = refl

cr_inside_stays : lines_in (codes "a\rb\n") ≡ line (codes "a\rb") ∷ []
cr_inside_stays = refl

empty_lines : lines_in (codes "\n\r\n") ≡ line [] ∷ line [] ∷ []
empty_lines = refl

-- 97 is `a`, 13 CR and 10 LF
eighty_octets : lines_in (replicate 80 97 ++ 10 ∷ []) ≡ line (replicate 80 97) ∷ []
eighty_octets = refl

eighty_with_cr : lines_in (replicate 79 97 ++ 13 ∷ 10 ∷ []) ≡ line (replicate 79 97) ∷ []
eighty_with_cr = refl

eighty_one_octets : lines_in (replicate 81 97 ++ 10 ∷ []) ≡ TooLong ∷ []
eighty_one_octets = refl

eighty_one_with_cr : lines_in (replicate 80 97 ++ 13 ∷ 10 ∷ []) ≡ TooLong ∷ []
eighty_one_with_cr = refl

-- one answer for the whole line, and the next line is read as usual
once : lines_in (replicate 200 97 ++ 10 ∷ codes "stay\n") ≡ TooLong ∷ line (codes "stay") ∷ []
once = refl
