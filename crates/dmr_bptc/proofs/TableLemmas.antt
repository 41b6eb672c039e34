-- How a table is compared with what it is made from: at each place of it, by computing both.
use Rattle.std.proofs.Common.{◌≡◌, ℕ, ◌+◌, ◌*◌, ◌/◌, ◌%◌, ◌<◌, Bool, true, sym, ◌∙◌, arith}
use Rattle.std.proofs.lemmas.Bool.{agree_below, agree_below_at}

-- two functions agree in each of this many rows, at each of this many places
unfoldable pub agree_in : (f g : ℕ → ℕ → Bool) (places rows : ℕ) → Bool
agree_in f g places rows = agree_below (λ row. agree_below (f row) (g row) places) (λ _. true) rows

pub agree_in-at : (f g : ℕ → ℕ → Bool) (places rows row place : ℕ) → agree_in f g places rows ≡ true → row < rows → place < places →
    f row place ≡ g row place
unfolding agree_in
agree_in-at f g places rows row place all row_lt lt =
    agree_below_at (f row) (g row) places place
    (agree_below_at (λ n. agree_below (f n) (g n) places) (λ _. true) rows row all row_lt) lt

-- four rows for each of this many entries
unfoldable pub agree_in_fours : (f g : ℕ → ℕ → ℕ → Bool) (places entries : ℕ) → Bool
agree_in_fours f g places entries = agree_in (λ row. f (row / 4) (row % 4)) (λ row. g (row / 4) (row % 4)) places (4 * entries)

pub agree_in_fours-at : (f g : ℕ → ℕ → ℕ → Bool) (places entries entry part place : ℕ) → agree_in_fours f g places entries ≡ true →
    entry < entries → part < 4 → place < places → f entry part place ≡ g entry part place
unfolding agree_in_fours
agree_in_fours-at f g places entries entry part place all entry_lt part_lt lt =
    let of_entry : (4 * entry + part) / 4 ≡ entry = omega arith in
    let of_part : (4 * entry + part) % 4 ≡ part = omega arith in
    (λ i. f (sym of_entry i) (sym of_part i) place)
    ∙ agree_in-at (λ row. f (row / 4) (row % 4)) (λ row. g (row / 4) (row % 4)) places (4 * entries) (4 * entry + part) place all
    (omega arith) lt
    ∙ (λ i. g (of_entry i) (of_part i) place)
