use Rattle.std.proofs.Common.{◌≡◌, ℕ, ◌+◌, ◌<◌, ◌≤◌, List, ◌∷◌, [], ◌++◌, Bool, None, length, drop, replicate, set, take, arith, refl, sym}
use Rattle.std.proofs.Common.{ap, ◌∙◌, subst}
use Rattle.std.proofs.lemmas.Bool.{le-ltb}
use Rattle.std.proofs.lemmas.List.{length-drop, length-replicate}
use Rattle.dmr_frames.specs.declared.table.FrameKind.{FrameKind}
use Rattle.dmr_frames.specs.Frames.{whole_step}
use Rattle.dmr_frames.specs.Reading.{body_step}
use Rattle.dmr_frames.specs.Shape.{IsWhole}
use Rattle.dmr_frames.specs.Table.{body_fault, body_length}
use Rattle.dmr_frames.specs.Versions.{has_numbers}
use Rattle.dmr_frames.specs.declared.frame.TheConstants.{LONGEST_FRAME}
use Rattle.dmr_frames.proofs.TableLemmas.{whole-last}
use Rattle.dmr_frames.proofs.EachFrame.{length-most, whole-clean}
use Rattle.dmr_frames.proofs.LastOctetLemmas.{copied}
use Rattle.dmr_frames.proofs.cutter.read_body.Goals as goal

-- the result of a body's last octet
last_step : (b : Bool) (k : FrameKind) (body : List ℕ) (x : ℕ) → body_fault b k (length body) x ≡ None → body_length b k ≤ length body + 1 →
    body_step b k body x ≡ whole_step b k (body ++ x ∷ [])
unfolding body_step
last_step b k body x none le = rw (none, le-ltb (length body + 1) (body_length b k) le) refl

-- a body and its last octet, after they were copied
abbrev both : List ℕ → List ℕ → ℕ → List ℕ
both front body x = take (length body + 1) (set (front ++ drop (length body) (replicate LONGEST_FRAME 0)) (length body) x)

joined : (b : Bool) (k : FrameKind) (front body : List ℕ) (x : ℕ) → front ≡ body → length body < body_length b k →
    both front body x ≡ body ++ x ∷ []
joined b k front body x e lt =
    copied front body (drop (length body) (replicate LONGEST_FRAME 0)) x e
    (omega (
      arith,
      lt,
      length-most b k,
      length-drop {A = ℕ} (length body) (replicate LONGEST_FRAME 0),
      length-replicate {A = ℕ} LONGEST_FRAME 0,
    ))

pub read_whole-requires : goal.read_whole-requires
read_whole-requires c =
    let b = has_numbers c.args.version in
    let whole = whole-last b c.args.kind c.args.body.now c.args.octet c.requires (omega arith) (sym c.in_default.ensures) (omega arith) in
    ap length (joined b c.args.kind c.copy_from_slice.new.self c.args.body.now c.args.octet c.copy_from_slice.ensures.after
    c.requires.short) ∙ whole.all

pub returns : goal.returns
returns c =
    let b = has_numbers c.args.version in
    let P : List ℕ → Type 0 = λ xs. IsWhole b c.args.kind xs in
    let same =
    joined b c.args.kind c.copy_from_slice.new.self c.args.body.now c.args.octet c.copy_from_slice.ensures.after c.requires.short in
    let whole = whole-last b c.args.kind c.args.body.now c.args.octet c.requires (omega arith) (sym c.in_default.ensures) (omega arith) in
    c.read_whole.ensures.0 (whole-clean b c.args.kind _ (subst P (sym same) whole)) ∙ ap (whole_step b c.args.kind) same
    ∙ sym (last_step b c.args.kind c.args.body.now c.args.octet (sym c.in_default.ensures) (omega arith))
