-- The facts about this crate's definitions that proofs of other crates may cite. They may cite nothing else in proofs/.
use Rattle.std.proofs.Common.{◌≡◌, ℕ, List, ◌++◌}
use Rattle.std.proofs.lemmas.List.Sums.{fold-append}
use Rattle.dmr_pdu.proofs.Laws.{items-append}
use Rattle.dmr_console.specs.Steps.{open_line_after_octet, line_produced, line_step_at, line_steps_from, open_line_after}
-- the octets of a stream, taken one by one, produce its lines, and leave the first octets of its open line
pub use Rattle.dmr_console.proofs.LineLemmas.{lines_whole, rest_whole}
-- octets without an LF are an open line
pub use Rattle.dmr_console.proofs.LineLemmas.{open_without_lf}

-- two pieces produce what the first produces, and then what the second does after the open line that the first leaves
pub line_steps-append : (begun a b : List ℕ) → line_steps_from begun (a ++ b) ≡ line_steps_from begun a ++ line_steps_from
    (open_line_after begun a) b
line_steps-append begun a b = items-append open_line_after_octet line_step_at line_produced begun a b

-- two pieces leave the open line that the second leaves after that of the first
pub open_line-append : (begun a b : List ℕ) → open_line_after begun (a ++ b) ≡ open_line_after (open_line_after begun a) b
open_line-append begun a b = fold-append open_line_after_octet begun a b
