-- Statements that run one after another: one, more, and each of a loop.
use Rattle.std.proofs.Common.{◌≡◌, ◌+◌, ◌<◌, ◌≤◌, inl, inr, ℕ, Bool, true, false, IsTrue, List, [], ◌∷◌, ◌++◌, map, length, drop, get_or}
use Rattle.std.proofs.Common.{Result, Ok, Err, arith, refl, sym, subst, ◌∙◌}
use Rattle.std.proofs.lemmas.List.{drop_all}
use Rattle.sqlite.specs.Store.{Ghosts}
use Rattle.sqlite.specs.Order.{Row}
use Rattle.sqlite.specs.declared.error.Error.{Error}
use Rattle.sqlite.specs.declared.error.Error.TheVariants.{SqliteFailure}
use Rattle.sqlite.specs.declared.error.ErrorCode.TheVariants.{TransactionState}
use Rattle.sqlite.specs.State.{State, HasCleanDisk, ExecutesInside, KeepsCommit, Survives}
use Rattle.sqlite.specs.Held.{Held, state}
use Rattle.sqlite.proofs.StateLemmas.{survives_then}
use Rattle.dmr_records.specs.Statements.{Statement, put_registration, put_registrations}
use Rattle.dmr_records.specs.Ran.{Executed, ExecutedAll, Failed, Keeps, RanAll, Within}
use Rattle.dmr_pdu.proofs.ListLaws.{rest_is}

-- some statements, and then others
pub ran_then : {S : Type 0} (g : Ghosts S) (first second : List Statement) (old mid new : Held S) (r : Result (Unit {0}) Error) →
    RanAll g first old mid (Ok tt) → RanAll g second mid new r → RanAll g (first ++ second) old new r
ran_then {S} g [] second old mid new r done more = subst (λ (h : Held S). RanAll g second h new r) done.1 more
ran_then g (it ∷ later) second old mid new r (inl (e, is, failed)) more = absurd cc
ran_then g (it ∷ later) second old mid new r (inr (next, ran, rest)) more =
    inr (next, ran, ran_then g later second next mid new r rest more)

-- some statements, of which one failed, and so no others
pub ran_short : {S : Type 0} (g : Ghosts S) (first second : List Statement) (old new : Held S) (e : Error) →
    RanAll g first old new (Err e) → RanAll g (first ++ second) old new (Err e)
ran_short g [] second old new e done = absurd (let is = done.0 in cc)
ran_short g (it ∷ later) second old new e (inl failed) = inl failed
ran_short g (it ∷ later) second old new e (inr (next, ran, rest)) = inr (next, ran, ran_short g later second next new e rest)

-- what one statement did
pub one_ok : {S : Type 0} (g : Ghosts S) (it : Statement) (old new : Held S) → RanAll g (it ∷ []) old new (Ok tt) →
    Within g old new (Executed g it old new)
one_ok {S} g it old new (inl (e, is, failed)) = absurd cc
one_ok {S} g it old new (inr (mid, ran, done)) = subst (λ (h : Held S). Within g old h (Executed g it old h)) (sym done.1) ran

pub one_err : {S : Type 0} (g : Ghosts S) (it : Statement) (old new : Held S) (e : Error) → RanAll g (it ∷ []) old new (Err e) →
    Within g old new (Failed g it old new e)
one_err {S} g it old new e (inl (other, is, failed)) = let same : other ≡ e =
    cc in subst (λ (x : Error). Within g old new (Failed g it old new x)) same failed
one_err {S} g it old new e (inr (mid, ran, done)) = absurd (let is = done.0 in cc)

-- In a loop that runs one statement for each element: whatever the statements that are left lead to, those of all
-- elements lead to from the start. So it is at the start ..
-- .. after one more element ..
pub ran_on : {S X : Type 0} (g : Ghosts S) (put : X → Statement) (xs : List X) (i : ℕ) (x : X) (start now next : Held S) → i < length xs →
    x ≡ get_or xs i x → RanAll g (put x ∷ []) now next (Ok tt)
    → ((last : Held S) (r : Result (Unit {0}) Error) → RanAll g (map put (drop i xs)) now last r → RanAll g (map put xs) start last r)
    → (last : Held S) (r : Result (Unit {0}) Error) → RanAll g (map put (drop (i + 1) xs)) next last r → RanAll g (map put xs) start last r
ran_on {S} {X} g put xs i x start now next within read ran all last r rest =
    all last r (subst (λ (ys : List X). RanAll g (map put ys) now last r) (sym (rest_is xs i x within read))
    (ran_then g (put x ∷ []) (map put (drop (i + 1) xs)) now next last r ran rest))

-- .. if one fails ..
pub ran_off : {S X : Type 0} (g : Ghosts S) (put : X → Statement) (xs : List X) (i : ℕ) (x : X) (start now next : Held S) (e : Error) →
    i < length xs → x ≡ get_or xs i x → RanAll g (put x ∷ []) now next (Err e)
    → ((last : Held S) (r : Result (Unit {0}) Error) → RanAll g (map put (drop i xs)) now last r → RanAll g (map put xs) start last r) →
    RanAll g (map put xs) start next (Err e)
ran_off {S} {X} g put xs i x start now next e within read ran all =
    all next (Err e) (subst (λ (ys : List X). RanAll g (map put ys) now next (Err e)) (sym (rest_is xs i x within read))
    (ran_short g (put x ∷ []) (map put (drop (i + 1) xs)) now next e ran))

-- .. and at the end
pub ran_out : {S X : Type 0} (g : Ghosts S) (put : X → Statement) (xs : List X) (i : ℕ) (start now : Held S) → length xs ≤ i
    → ((last : Held S) (r : Result (Unit {0}) Error) → RanAll g (map put (drop i xs)) now last r → RanAll g (map put xs) start last r) →
    RanAll g (map put xs) start now (Ok tt)
ran_out {S} {X} g put xs i start now over all =
    all now (Ok tt) (subst (λ (ys : List X). RanAll g (map put ys) now now (Ok tt)) (sym (drop_all i xs over)) (refl, refl))

-- the same of registrations, whose places are counted
pub placed_on : {S : Type 0} (g : Ghosts S) (radios : List ℕ) (i place radio : ℕ) (start now next : Held S) → i < length radios →
    radio ≡ get_or radios i radio → RanAll g (put_registration place radio ∷ []) now next (Ok tt)
    → ((last : Held S) (r : Result (Unit {0}) Error) → RanAll g (put_registrations place (drop i radios)) now last r →
    RanAll g (put_registrations 1 radios) start last r)
    → (last : Held S) (r : Result (Unit {0}) Error) → RanAll g (put_registrations (place + 1) (drop (i + 1) radios)) next last r →
    RanAll g (put_registrations 1 radios) start last r
placed_on {S} g radios i place radio start now next within read ran all last r rest =
    all last r (subst (λ (ys : List ℕ). RanAll g (put_registrations place ys) now last r) (sym (rest_is radios i radio within read))
    (ran_then g (put_registration place radio ∷ []) (put_registrations (place + 1) (drop (i + 1) radios)) now next last r ran rest))

pub placed_off : {S : Type 0} (g : Ghosts S) (radios : List ℕ) (i place radio : ℕ) (start now next : Held S) (e : Error) →
    i < length radios → radio ≡ get_or radios i radio → RanAll g (put_registration place radio ∷ []) now next (Err e)
    → ((last : Held S) (r : Result (Unit {0}) Error) → RanAll g (put_registrations place (drop i radios)) now last r →
    RanAll g (put_registrations 1 radios) start last r) → RanAll g (put_registrations 1 radios) start next (Err e)
placed_off {S} g radios i place radio start now next e within read ran all =
    all next (Err e) (subst (λ (ys : List ℕ). RanAll g (put_registrations place ys) now next (Err e))
    (sym (rest_is radios i radio within read))
    (ran_short g (put_registration place radio ∷ []) (put_registrations (place + 1) (drop (i + 1) radios)) now next e ran))

pub placed_out : {S : Type 0} (g : Ghosts S) (radios : List ℕ) (i place : ℕ) (start now : Held S) → length radios ≤ i
    → ((last : Held S) (r : Result (Unit {0}) Error) → RanAll g (put_registrations place (drop i radios)) now last r →
    RanAll g (put_registrations 1 radios) start last r) → RanAll g (put_registrations 1 radios) start now (Ok tt)
placed_out {S} g radios i place start now over all =
    all now (Ok tt) (subst (λ (ys : List ℕ). RanAll g (put_registrations place ys) now now (Ok tt)) (sym (drop_all i radios over))
    (refl, refl))

-- a statement within a transaction commits nothing
kept_by : (sql : List ℕ) (params : Row) (old new : State) (r : Result ℕ Error) → ExecutesInside 0 sql params old new r → KeepsCommit old new
kept_by sql params old new (Ok count) ran = record { was_open = λ _. ran.1.was_open; committed = λ _. ran.1.committed_is }
kept_by sql params old new (Err e) (inl (_, inl same)) = record { was_open = λ _. same.0.was_open; committed = λ _. same.0.committed_is }
kept_by sql params old new (Err e) (inl (_, inr back)) = record { was_open = back.was_open; committed = λ opened. (back.undone opened).1 }
kept_by sql params old new (Err e) (inr (_, _, same)) = record { was_open = λ _. same.0.was_open; committed = λ _. same.0.committed_is }

-- nothing happened
pub keeps_same : {S : Type 0} (g : Ghosts S) (h : Held S) → Keeps g h h
keeps_same g h = record {
  kept = λ _. record { was_open = λ opened. opened; committed = λ _. refl };
  survives = record {
    clean = omega arith;
    shield = λ shielded. shielded;
    counts = omega arith;
    limit = refl;
    closes = λ _ opened. inl opened;
    crash = λ _ db may. inl may;
  };
}

-- what `execute` of a transaction ensures
pub keeps_run : {S : Type 0} (g : Ghosts S) (sql : List ℕ) (params : Row) (old new : Held S) (r : Result ℕ Error) →
    ((state g old).in_transaction ≡ false → (r ≡ Err (SqliteFailure TransactionState)) × (new ≡ old))
    → (HasCleanDisk (state g new) → IsTrue (state g old).in_transaction → ExecutesInside 0 sql params (state g old) (state g new) r) →
    Survives (state g old) (state g new) (λ _. ⊥) → Keeps g old new
keeps_run {S} g sql params old new r ended runs survives = record
    { kept = λ clean. either old.in_transaction refl clean; survives = survives }
  where
    either : (b : Bool) → old.in_transaction ≡ b → HasCleanDisk (state g new) → KeepsCommit (state g old) (state g new)
    either true is clean = kept_by sql params (state g old) (state g new) r (runs clean is)
    either false is clean = subst (λ (h : Held S). KeepsCommit (state g old) (state g h)) (sym (ended is).1)
        ((keeps_same g old).kept (subst (λ (h : Held S). HasCleanDisk (state g h)) (ended is).1 clean))

-- one after another
pub keeps_then : {S : Type 0} (g : Ghosts S) (a b c : Held S) → Keeps g a b → Keeps g b c → Keeps g a c
keeps_then g a b c one two = record {
  kept = λ clean.
      let early : HasCleanDisk (state g b) = omega (arith, two.survives.clean) in
      record {
        was_open = λ opened. (one.kept early).was_open ((two.kept clean).was_open opened);
        committed = λ opened. (two.kept clean).committed opened ∙ (one.kept early).committed ((two.kept clean).was_open opened);
      };
  survives = survives_then (state g a) (state g b) (state g c) _ _ (λ _. ⊥) (λ _ _ none. none) (λ _ _ none. none) one.survives two.survives;
}

-- if the disk has returned what was written up to the end, it has up to the beginning
pub clean_before : {S : Type 0} (g : Ghosts S) (its : List Statement) (old new : Held S) (r : Result (Unit {0}) Error) →
    RanAll g its old new r → HasCleanDisk (state g new) → HasCleanDisk (state g old)
clean_before {S} g [] old new r done clean = subst (λ (h : Held S). HasCleanDisk (state g h)) done.1 clean
clean_before g (it ∷ later) old new r (inl (e, is, failed)) clean = omega (arith, failed.survives.clean)
clean_before g (it ∷ later) old new r (inr (mid, ran, rest)) clean =
    let late : HasCleanDisk (state g mid) = clean_before g later mid new r rest clean in
    omega (arith, ran.survives.clean)

-- statements that ran were executed, if the disk has returned what was written
pub executed : {S : Type 0} (g : Ghosts S) (its : List Statement) (old new : Held S) (r : Result (Unit {0}) Error) →
    RanAll g its old new r → HasCleanDisk (state g new) → IsTrue (state g old).in_transaction → ExecutedAll g its old new r
executed g [] old new r done clean inside = done
executed g (it ∷ later) old new r (inl (e, is, failed)) clean inside = inl (e, is, failed.fact clean inside)
executed g (it ∷ later) old new r (inr (mid, ran, rest)) clean inside =
    let did = ran.fact (clean_before g later mid new r rest clean) inside in
    inr (mid, did, executed g later mid new r rest clean did.1.1.mode)

-- one statement, as the library ran it
pub ran_as : {S : Type 0} (g : Ghosts S) (it : Statement) (text : List ℕ) (params : Row) (old new : Held S) (r : Result (Unit {0}) Error) →
    RanAll g (record { text = text; params = params } ∷ []) old new r
    → text ≡ it.text → params ≡ it.params → RanAll g (it ∷ []) old new r
ran_as g it text params old new r ran same_text same_params =
    subst (λ (p : Row). RanAll g (record { text = it.text; params = p } ∷ []) old new r) same_params
    (subst (λ (t : List ℕ). RanAll g (record { text = t; params = params } ∷ []) old new r) same_text ran)

pub ran_ok : {S : Type 0} (g : Ghosts S) (it : Statement) (old new : Held S) (count : ℕ) →
    (HasCleanDisk (state g new) → IsTrue (state g old).in_transaction →
    ExecutesInside 0 it.text it.params (state g old) (state g new) (Ok count)) → Survives (state g old) (state g new) (λ _. ⊥)
    → RanAll g (it ∷ []) old new (Ok tt)
ran_ok g it old new count runs survives =
    inr (new, record { fact = λ clean inside. (count, runs clean inside); survives = survives }, (refl, refl))

pub ran_err : {S : Type 0} (g : Ghosts S) (it : Statement) (old new : Held S) (e : Error) →
    (HasCleanDisk (state g new) → IsTrue (state g old).in_transaction →
    ExecutesInside 0 it.text it.params (state g old) (state g new) (Err e)) → Survives (state g old) (state g new) (λ _. ⊥)
    → RanAll g (it ∷ []) old new (Err e)
ran_err g it old new e runs survives = inl (e, refl, record { fact = runs; survives = survives })
