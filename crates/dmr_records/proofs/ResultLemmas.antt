-- Facts of a result, by its two cases.
use Rattle.std.proofs.Common.{◌≡◌, Result, Ok, Err, IfErr, OnErr, OnOk}

-- a fact of success follows from another
pub ok_then : {X E A B : Type 0} (r : Result X E) → (A → B) → OnOk r A → OnOk r B
ok_then (Ok x) f a = f a
ok_then (Err e) f a = tt

-- a fact holds in any case
pub on_ok : {X E A : Type 0} (r : Result X E) → A → OnOk r A
on_ok (Ok x) a = a
on_ok (Err e) a = tt

-- a fact of an error that is known
pub if_err : {X E : Type 0} (r : Result X E) (e : E) (P : E → Type 0) → r ≡ Err e → P e → IfErr r P
if_err r e P is p = rw is p

-- a fact of an error follows from another
pub err_then : {X E : Type 0} (r : Result X E) (P Q : E → Type 0) → ((e : E) → P e → Q e) → IfErr r P → IfErr r Q
err_then (Ok x) P Q f p = tt
err_then (Err e) P Q f p = f e p

-- a fact holds in any case
pub on_err : {X E A : Type 0} (r : Result X E) → A → OnErr r A
on_err (Ok x) a = tt
on_err (Err e) a = a
