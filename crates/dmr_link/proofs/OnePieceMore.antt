-- The notices and the outputs of octets: those of the next piece, and those of the octets after it.
use Rattle.std.proofs.Common.{◌≡◌, ℕ, ◌+◌, ◌≤◌, Bool, List, ◌++◌, Option, Some, None, take, drop, drop-drop, take-append-drop, sym, ap, ◌∙◌}
use Rattle.std.proofs.Common.{append_assoc, arith}
use Rattle.std.proofs.lemmas.List.Sums.{fold-append}
use Rattle.dmr_core.specs.State.{SiteState as Site}
use Rattle.dmr_frames.specs.declared.frame.FrameOut.{FrameOut}
use Rattle.dmr_link.specs.declared.connection.CarrierIdentity.{CarrierIdentity}
use Rattle.dmr_link.specs.declared.connection.Connection.{Connection}
use Rattle.dmr_link.specs.Answering.{facts_after_notice, site_after_notices}
use Rattle.dmr_link.specs.Notices.{list_of_notice}
use Rattle.dmr_link.specs.Notices.{Notice}
use Rattle.dmr_link.specs.Numbering.{frames_text, next_after_frames}
use Rattle.dmr_link.specs.Room.{most_in, numbered_after_all}
use Rattle.dmr_link.specs.Session.{frames_said}
use Rattle.dmr_link.specs.Steps.{connection_after_octet, notices_of_octets, connection_after_octets}
use Rattle.dmr_link.proofs.NumberingLemmas.{frames_text-append, next_after_frames-append}
use Rattle.dmr_link.proofs.OctetsMeanWhatTheyProduce.{notices_of_octets-append}
use Rattle.dmr_link.proofs.PiecesInTwo.{frames_said-append}

site-append : (site : Site) (a b : List Notice) → site_after_notices site (a ++ b) ≡ site_after_notices (site_after_notices site a) b
site-append site a b = (λ i. record { plan = site.plan; facts = fold-append (facts_after_notice site.plan) site.facts a b i })

pub most-append : (numbered : Bool) (notice : Option Notice) (more : List Notice) →
    most_in numbered (list_of_notice notice ++ more) ≡ most_in numbered (list_of_notice notice) + most_in
    (numbered_after_all numbered (list_of_notice notice)) more
most-append numbered None more = omega arith
most-append numbered (Some notice) more = omega arith

-- the carrier of the octets, the connection before the piece, the notice that the piece produced, and the connection
-- after it
module _ (who whose : CarrierIdentity) (same : whose ≡ who) (k later : Connection) (octets : List ℕ) (i n : ℕ) (brought : Option Notice)
    (brings : notices_of_octets whose k (take n (drop i octets)) ≡ list_of_notice brought)
    (left : later ≡ connection_after_octets whose k (take n (drop i octets))) where
  abbrev before : List Notice
  before = notices_of_octets who k (drop i octets)

  abbrev behind : List Notice
  behind = notices_of_octets who later (drop (i + n) octets)

  in_two : drop i octets ≡ take n (drop i octets) ++ drop (i + n) octets
  in_two = sym (take-append-drop n (drop i octets)) ∙ ap (λ (xs : List ℕ). take n (drop i octets) ++ xs) (drop-drop n i octets)

  left_by : later ≡ connection_after_octets who k (take n (drop i octets))
  left_by = left ∙ ap (λ (w : CarrierIdentity). connection_after_octets w k (take n (drop i octets))) same

  notices_go : before ≡ list_of_notice brought ++ behind
  notices_go =
      ap (notices_of_octets who k) in_two
      ∙ notices_of_octets-append who k (take n (drop i octets)) (drop (i + n) octets)
      ∙ (λ j. (ap (λ (w : CarrierIdentity). notices_of_octets w k (take n (drop i octets))) (sym same) ∙ brings) j ++ notices_of_octets who
      (sym left_by j) (drop (i + n) octets))

  pub connection_goes : (whole : Connection) → connection_after_octets who k (drop i octets) ≡ whole →
      connection_after_octets who later (drop (i + n) octets) ≡ whole
  connection_goes whole e =
      ap (λ (l : Connection). connection_after_octets who l (drop (i + n) octets)) left_by
      ∙ sym (fold-append (connection_after_octet who) k (take n (drop i octets)) (drop (i + n) octets))
      ∙ sym (ap (connection_after_octets who k) in_two)
      ∙ e

  pub most_goes : (numbered : Bool) → most_in numbered before ≡ most_in numbered (list_of_notice brought) + most_in
      (numbered_after_all numbered (list_of_notice brought)) behind
  most_goes numbered = ap (most_in numbered) notices_go ∙ most-append numbered brought behind

  pub room_goes : (numbered then : Bool) → then ≡ numbered_after_all numbered (list_of_notice brought) → (len more room rest : ℕ) →
      more ≤ len + most_in numbered (list_of_notice brought) → rest ≡ room →
      len + most_in numbered before ≤ room → more + most_in then behind ≤ rest
  room_goes numbered then at len more room rest put kept fits =
      let left : most_in then behind ≡ most_in (numbered_after_all numbered (list_of_notice brought)) behind =
      ap (λ (b : Bool). most_in b behind) at in
      omega (arith, most_goes numbered, left, put, kept, fits)

  -- the site after that notice
  module _ (site new : Site) (reported : new ≡ site_after_notices site (list_of_notice brought)) where
    pub site_goes : (whole : Site) → site_after_notices site before ≡ whole → site_after_notices new behind ≡ whole
    site_goes whole e =
        ap (λ (s : Site). site_after_notices s behind) reported
        ∙ sym (site-append site (list_of_notice brought) behind)
        ∙ ap (site_after_notices site) (sym notices_go)
        ∙ e

    abbrev here : List FrameOut
    here = frames_said site.plan site.facts (list_of_notice brought)

    abbrev there : List FrameOut
    there = frames_said new.plan new.facts behind

    frames_go : frames_said site.plan site.facts before ≡ here ++ there
    frames_go =
        ap (frames_said site.plan site.facts) notices_go
        ∙ frames_said-append site.plan site.facts (list_of_notice brought) behind
        ∙ ap (λ (s : Site). here ++ frames_said s.plan s.facts behind) (sym reported)

    module _ (next later_next : Option ℕ) (counted : later_next ≡ next_after_frames next here) where
      pub items_go : (text more whole : List ℕ) → more ≡ text ++ frames_text next here →
          text ++ frames_text next (frames_said site.plan site.facts before) ≡ whole → more ++ frames_text later_next there ≡ whole
      items_go text more whole put e =
          (λ j. put j ++ frames_text (counted j) there)
          ∙ append_assoc text (frames_text next here) (frames_text (next_after_frames next here) there)
          ∙ ap (λ (t : List ℕ). text ++ t) (sym (ap (frames_text next) frames_go ∙ frames_text-append next here there))
          ∙ e

      pub next_goes : (whole : Option ℕ) → next_after_frames next (frames_said site.plan site.facts before) ≡ whole →
          next_after_frames later_next there ≡ whole
      next_goes whole e =
          ap (λ (n : Option ℕ). next_after_frames n there) counted
          ∙ sym (ap (next_after_frames next) frames_go ∙ next_after_frames-append next here there)
          ∙ e
