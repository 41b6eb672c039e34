use Rattle.std.proofs.Common.{◌≡◌, ◌==◌, ◌<◌, ℕ, Bool, true, get_or, refl, sym, ap, ◌∙◌}
use Rattle.std.proofs.lemmas.Bool.{agree_below, agree_below_at}
use Rattle.dmr_bptc.specs.declared.layout.TheConstants.{WRONG_IN_ROW, WRONG_IN_COLUMN}
use Rattle.dmr_bptc.specs.Bptc.{row_equations, column_equations}
use Rattle.dmr_bptc.specs.Lines.{equations_of}
use Rattle.dmr_bptc.specs.Mending.{mark}
use Rattle.dmr_bptc.proofs.layout.GridLine.wrong_bit.Goals as goal

-- each entry of the tables is the one bit with this mark, if there is one
unfoldable row_agrees : ℕ → ℕ → Bool
row_agrees failed count = agree_below (λ k. failed == mark row_equations k) (λ k. k == get_or WRONG_IN_ROW failed 0) count

rows_right : agree_below (λ failed. row_agrees failed 15) (λ _. true) 16 ≡ true
unfolding row_agrees row_equations
rows_right = refl

row_agrees-at : (failed count k : ℕ) → row_agrees failed count ≡ true → k < count →
    (failed == mark row_equations k) ≡ (k == get_or WRONG_IN_ROW failed 0)
unfolding row_agrees
row_agrees-at failed count k all lt =
    agree_below_at (λ k. failed == mark row_equations k) (λ k. k == get_or WRONG_IN_ROW failed 0) count k all lt

unfoldable column_agrees : ℕ → ℕ → Bool
column_agrees failed count = agree_below (λ k. failed == mark column_equations k) (λ k. k == get_or WRONG_IN_COLUMN failed 0) count

columns_right : agree_below (λ failed. column_agrees failed 13) (λ _. true) 16 ≡ true
unfolding column_agrees column_equations
columns_right = refl

column_agrees-at : (failed count k : ℕ) → column_agrees failed count ≡ true → k < count →
    (failed == mark column_equations k) ≡ (k == get_or WRONG_IN_COLUMN failed 0)
unfolding column_agrees
column_agrees-at failed count k all lt =
    agree_below_at (λ k. failed == mark column_equations k) (λ k. k == get_or WRONG_IN_COLUMN failed 0) count k all lt

pub returns-in-Row : goal.returns-in-Row
returns-in-Row c = λ k k_lt.
    let lt : k < 15 = rw c.in-Row.is at k_lt in
    ap (λ line. c.args.failed == mark (equations_of line) k) c.in-Row.is
    ∙ row_agrees-at c.args.failed 15 k (agree_below_at (λ failed. row_agrees failed 15) (λ _. true) 16 c.args.failed rows_right c.requires)
    lt
    ∙ ap (λ n. k == n) (sym c.from.ensures)

pub returns-in-Column : goal.returns-in-Column
returns-in-Column c = λ k k_lt.
    let lt : k < 13 = rw c.in-Column.is at k_lt in
    ap (λ line. c.args.failed == mark (equations_of line) k) c.in-Column.is
    ∙ column_agrees-at c.args.failed 13 k
    (agree_below_at (λ failed. column_agrees failed 13) (λ _. true) 16 c.args.failed columns_right c.requires) lt
    ∙ ap (λ n. k == n) (sym c.from-in-Column.ensures)
