use Rattle.std.proofs.Common.{ℕ, bit_xor, subst}
use Rattle.dmr_bptc.specs.Sums.{AreSums}
use Rattle.dmr_bptc.proofs.SumTableLemmas.{sum_entry}
use Rattle.dmr_bptc.proofs.FlipLemmas.{are_sums-flipped, sum_number-entry}
use Rattle.dmr_bptc.proofs.sums.Sums.flip.Goals as goal

pub returns : goal.returns
unfolding sum_entry
returns c = λ word flipped is before.
    let place : ℕ = c.args.place in
    let columns : ℕ = c.args.self.now.columns in
    let rows : ℕ = c.args.self.now.rows in
    let high : ℕ = c.args.self.now.high in
    let low : ℕ = c.args.self.now.low in
    subst (λ (number : ℕ → ℕ). AreSums flipped
    (record {
      columns = bit_xor columns (number 0);
      rows = bit_xor rows (number 1);
      high = bit_xor high (number 2);
      low = bit_xor low (number 3);
    }))
    (λ i part. sum_number-entry part c.args.place i)
    (are_sums-flipped word flipped c.args.place c.args.self.now.columns c.args.self.now.rows c.args.self.now.high c.args.self.now.low
    c.requires is before)
