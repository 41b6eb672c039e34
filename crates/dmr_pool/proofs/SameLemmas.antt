-- Equality of PDUs from a place on.
use Rattle.std.proofs.Common.{◌≡◌, ℕ, zero, suc, ◌+◌, List, [], ◌∷◌, subst, sym, add-one, drop}
use Rattle.std.specs.Prelude.{◌&&◌, Some, slice_get}
use Rattle.dmr_pdu.specs.declared.pdu.Pdu.{Pdu}
use Rattle.dmr_pdu.specs.contracts.pdu.PduPartialEq.TheImpl as pdu_eq
use Rattle.dmr_pool.specs.Same.{are_same_pdus}

-- the PDU at the place, and then the others
same_from_next : (xs ys : List Pdu) (i : ℕ) (a b : Pdu) → slice_get xs i ≡ Some a → slice_get ys i ≡ Some b
    → are_same_pdus (drop i xs) (drop i ys) ≡ ((pdu_eq.ghosts).eq a b && are_same_pdus (drop (suc i) xs) (drop (suc i) ys))
same_from_next [] ys i a b h k = cc
same_from_next (x ∷ xs) [] i a b h k = cc
same_from_next (x ∷ xs) (y ∷ ys) zero a b h k =
    let e : x ≡ a = cc in
    let d : y ≡ b = cc in
    λ i. (pdu_eq.ghosts).eq (e i) (d i) && are_same_pdus xs ys
same_from_next (x ∷ xs) (y ∷ ys) (suc i) a b h k = same_from_next xs ys i a b h k

pub same_from : (xs ys : List Pdu) (i : ℕ) (a b : Pdu) → slice_get xs i ≡ Some a → slice_get ys i ≡ Some b
    → are_same_pdus (drop i xs) (drop i ys) ≡ ((pdu_eq.ghosts).eq a b && are_same_pdus (drop (i + 1) xs) (drop (i + 1) ys))
same_from xs ys i a b h k = subst (λ n. are_same_pdus (drop i xs) (drop i ys)
    ≡ ((pdu_eq.ghosts).eq a b && are_same_pdus (drop n xs) (drop n ys))) (sym (add-one i)) (same_from_next xs ys i a b h k)
