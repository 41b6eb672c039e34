-- One more carrier that differs from those before it.
use Rattle.std.proofs.Common.{◌≡◌, ℕ, false, ◌==◌, List, [], ◌∷◌, ◌++◌, map, refl, subst}
use Rattle.std.proofs.lemmas.Bool.{or_parts, or_from}
use Rattle.std.specs.List.{list_any}
use Rattle.dmr_plan.specs.declared.carriers.CarrierRow.{CarrierRow}
use Rattle.dmr_plan.specs.Lists.{has_repeat}
use Rattle.dmr_plan.specs.Carriers.{has_port_in}
use Rattle.dmr_plan.specs.Kept.{IsNewRow, AreApart}
use Rattle.dmr_pdu.proofs.ListLaws.{flipped}

-- no element has the number, and the new one does not either
any-push : {A : Type 0} (f : A → ℕ) (n : ℕ) (xs : List A) (x : A) → list_any (λ m. m == n) (map f xs) ≡ false → (f x == n) ≡ false
    → list_any (λ m. m == n) (map f (xs ++ x ∷ [])) ≡ false
any-push f n [] x h e = or_from _ _ e refl
any-push f n (y ∷ ys) x h e =
    let p = or_parts _ _ h in
    or_from _ _ p.0 (any-push f n ys x p.1 e)

-- no number is there twice, and the number of the new element is new
pub has_repeat-push : {A : Type 0} (f : A → ℕ) (xs : List A) (x : A) → has_repeat (map f xs) ≡ false
    → list_any (λ y. f y == f x) xs ≡ false → has_repeat (map f (xs ++ x ∷ [])) ≡ false
has_repeat-push f [] x h e = refl
has_repeat-push f (y ∷ ys) x h e =
    let p = or_parts _ _ h in
    let q = or_parts _ _ e in
    or_from _ _ (any-push f (f y) ys x p.0 (flipped (f y) (f x) q.0)) (has_repeat-push f ys x p.1 q.1)

-- no carrier has the port, and the new one does not either
port-push : (n : ℕ) (rows : List CarrierRow) (row : CarrierRow) → has_port_in rows n ≡ false → (row.port == n) ≡ false
    → has_port_in (rows ++ row ∷ []) n ≡ false
port-push n [] row h e = or_from _ _ e refl
port-push n (y ∷ ys) row h e =
    let p = or_parts _ _ h in
    or_from _ _ p.0 (port-push n ys row p.1 e)

-- carriers that differ from one another, and a new one that differs from them
AreApart-push : (console_port : ℕ) (rows : List CarrierRow) (row : CarrierRow) → AreApart console_port rows
    → IsNewRow console_port rows row → AreApart console_port (rows ++ row ∷ [])
AreApart-push console_port rows row h new = record {
  numbers = has_repeat-push (λ (r : CarrierRow). r.number) rows row h.numbers new.number;
  lpcns = has_repeat-push (λ (r : CarrierRow). r.lpcn) rows row h.lpcns new.lpcn;
  ports = has_repeat-push (λ (r : CarrierRow). r.port) rows row h.ports new.port;
  console = port-push console_port rows row h.console new.console;
}

-- the same for the list that a slice shows, and the list after the push
pub AreApart-grown : (console_port : ℕ) (rows seen grown : List CarrierRow) (row : CarrierRow) → seen ≡ rows → grown ≡ rows ++ row ∷ []
    → AreApart console_port rows → IsNewRow console_port seen row → AreApart console_port grown
AreApart-grown console_port rows seen grown row same more h new =
    rw more (AreApart-push console_port rows row h (subst (λ rs. IsNewRow console_port rs row) same new))
