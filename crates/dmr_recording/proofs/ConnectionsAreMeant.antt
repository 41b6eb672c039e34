-- The frames of a recording, on the connections of a carrier.
use Rattle.std.proofs.Common.{◌≡◌, ℕ, ◌<◌, Bool, true, false, ◌&&◌, ◌||◌, if◌then◌else◌, List, [], ◌∷◌, ◌++◌, length, drop, None, refl, sym}
use Rattle.std.proofs.Common.{ap, ◌∙◌, arith, eq-eqb}
use Rattle.std.proofs.lemmas.List.{drop_at}
use Rattle.std.proofs.lemmas.List.Sums.{fold-append}
use Rattle.dmr_frames.specs.declared.frame.FrameIn.{FrameIn}
use Rattle.dmr_frames.specs.declared.frame.FrameIn.TheVariants as frame
use Rattle.dmr_frames.specs.declared.version.FrameTable.{FrameTable}
use Rattle.dmr_frames.specs.declared.version.FrameTable.TheVariants.{First, Later}
use Rattle.dmr_frames.specs.declared.version.Version.TheVariants.{V1}
use Rattle.dmr_frames.specs.Frames.{IsFrame, spelling}
use Rattle.dmr_frames.specs.Reading.{frames_from, rest_after_octets}
use Rattle.dmr_frames.specs.Rest.{Rest, Open}
use Rattle.dmr_frames.specs.Versions.{version_of, table_after}
use Rattle.dmr_link.specs.declared.connection.CarrierIdentity.{CarrierIdentity}
use Rattle.dmr_link.specs.declared.connection.Connection.{Connection}
use Rattle.dmr_link.specs.declared.connection.Connection.TheVariants.{Closed, Running}
use Rattle.dmr_link.specs.Input.{Piece}
use Rattle.dmr_link.specs.Inputs.{piece_produces, piece_leaves}
use Rattle.dmr_link.specs.Meaning.{event_of, is_accepted, is_last, is_repeat, newest_after, is_stream_fault, left_by_octets}
use Rattle.dmr_link.specs.Meaning.{meaning_of_frames, meaning_of_octets, no_octets, refusal_of_first, while_up}
use Rattle.dmr_link.specs.Notices.{list_of_notice}
use Rattle.dmr_link.specs.Notices.{Notice, Accepted, Happened}
use Rattle.dmr_link.specs.Records.{Record, left_by_records, meaning_of_records, records_after}
use Rattle.dmr_link.specs.Steps.{connection_after_octet, connection_after_octets, new_connection, notices_of_octets}
use Rattle.dmr_recording.specs.Records.{quiet_connection}
use Rattle.dmr_link.proofs.LinkLaws.{octets-leave}

-- the laws of frames and of connections
pub record ConnectionLaws : Type 0 where
  pub frame : (table : FrameTable) (f : FrameIn) → IsFrame (version_of table) f → (frames_from (Open table []) (spelling f) ≡ f ∷ []) ×
      (rest_after_octets (Open table []) (spelling f) ≡ Open (table_after table f) [])
  pub cut : (rest : Rest) (a b : List ℕ) → (frames_from rest (a ++ b) ≡ frames_from rest a ++ frames_from (rest_after_octets rest a) b) ×
      (rest_after_octets rest (a ++ b) ≡ rest_after_octets (rest_after_octets rest a) b)
  pub opens : (who : CarrierIdentity) (octets : List ℕ) → meaning_of_octets who octets false ≡ notices_of_octets who
      (new_connection who) octets
  pub left : (who : CarrierIdentity) (octets : List ℕ) → left_by_octets who octets ≡ connection_after_octets who (new_connection who) octets
  pub in_two : (who : CarrierIdentity) (k : Connection) (a b : List ℕ) →
      notices_of_octets who k (a ++ b) ≡ notices_of_octets who k a ++ notices_of_octets who (connection_after_octets who k a) b
  pub adds : (who : CarrierIdentity) (rs : List Record) (piece : Piece) →
      meaning_of_records who (records_after rs piece) ≡ meaning_of_records who rs ++ piece_produces who (left_by_records who rs) piece
  pub leaves : (who : CarrierIdentity) (rs : List Record) (piece : Piece) →
      left_by_records who (records_after rs piece) ≡ piece_leaves who (left_by_records who rs) piece

meant_by : (who : CarrierIdentity) (octets : List ℕ) (frames : List FrameIn) (rest : Rest) → frames_from (no_octets who) octets ≡ frames →
    rest_after_octets (no_octets who) octets ≡ rest → meaning_of_octets who octets false ≡ meaning_of_frames who frames
    (is_stream_fault rest || false)
unfolding meaning_of_octets
meant_by who octets frames rest f r = (λ i. meaning_of_frames who (f i) (is_stream_fault (r i) || false))

-- a frame after which a carrier stays up, and which is not numbered
pub record IsQuiet (f : FrameIn) : Type 0 where
  pub fits : IsFrame V1 f
  pub fresh : is_repeat None f ≡ false
  pub stays : is_last f ≡ false
  pub unnumbered : newest_after None f ≡ None

pub rx_quiet : (slot : ℕ) (word : List Bool) → slot < 2 → length word ≡ 196 → IsQuiet (frame.Rx None slot word)
rx_quiet slot word few len = record { fits = (tt, few, len); fresh = refl; stays = refl; unnumbered = refl }

pub active_quiet : (slot : ℕ) → slot < 2 → IsQuiet (frame.Active slot)
active_quiet slot few = record { fits = few; fresh = refl; stays = refl; unnumbered = refl }

pub poll_quiet : IsQuiet frame.Poll
poll_quiet = record { fits = tt; fresh = refl; stays = refl; unnumbered = refl }

module _ (laws : ConnectionLaws) (who : CarrierIdentity) (small : who.carrier < 256) (channel : who.lpcn < 65536) where
  abbrev hello : FrameIn
  hello = frame.Hello 1 who.carrier who.lpcn

  hello_fits : IsFrame V1 hello
  hello_fits = (omega arith, small, channel)

  abbrev first_rest : Rest
  first_rest = Open (Later V1) []

  first : (frames_from (no_octets who) (spelling hello) ≡ hello ∷ []) × (rest_after_octets (no_octets who) (spelling hello) ≡ first_rest)
  first = laws.frame (First who.greatest) hello hello_fits

  accepted : is_accepted who hello ≡ true
  accepted = (λ i. eq-eqb who.carrier who.carrier refl i && eq-eqb who.lpcn who.lpcn refl i)

  -- ---- the HELLO

  pub hello_produces : notices_of_octets who (new_connection who) (spelling hello) ≡ Accepted who.carrier V1 ∷ []
  hello_produces =
      sym (laws.opens who (spelling hello))
      ∙ meant_by who (spelling hello) (hello ∷ []) first_rest first.0 first.1
      ∙ ap (λ (b : Bool). if b then Accepted who.carrier V1 ∷ [] else list_of_notice (refusal_of_first who hello)) accepted

  pub hello_leaves : connection_after_octets who (new_connection who) (spelling hello) ≡ quiet_connection
  hello_leaves =
      sym (laws.left who (spelling hello))
      ∙ octets-leave who (spelling hello) (hello ∷ []) first_rest first.0 first.1
      ∙ ap (λ (b : Bool). if b then quiet_connection else Closed) accepted

  -- ---- another frame

  module _ (f : FrameIn) (quiet : IsQuiet f) where
    next : (frames_from first_rest (spelling f) ≡ f ∷ []) × (rest_after_octets first_rest (spelling f) ≡ first_rest)
    next = laws.frame (Later V1) f quiet.fits

    abbrev both : List ℕ
    both = spelling hello ++ spelling f

    both_frames : frames_from (no_octets who) both ≡ hello ∷ f ∷ []
    both_frames =
        (laws.cut (no_octets who) (spelling hello) (spelling f)).0
        ∙ (λ i. first.0 i ++ frames_from (first.1 i) (spelling f))
        ∙ ap (λ (fs : List FrameIn). hello ∷ fs) next.0

    both_rest : rest_after_octets (no_octets who) both ≡ first_rest
    both_rest =
        (laws.cut (no_octets who) (spelling hello) (spelling f)).1
        ∙ ap (λ (r : Rest). rest_after_octets r (spelling f)) first.1
        ∙ next.1

    abbrev happens : Notice
    happens = Happened (event_of who.carrier f)

    both_mean : meaning_of_octets who both false ≡ Accepted who.carrier V1 ∷ happens ∷ []
    both_mean =
        meant_by who both (hello ∷ f ∷ []) first_rest both_frames both_rest
        ∙ (λ i. if accepted i then Accepted who.carrier V1 ∷ while_up who.carrier
        (if quiet.fresh i then [] else f ∷ []) false else list_of_notice (refusal_of_first who hello))
        ∙ ap (λ (b : Bool). Accepted who.carrier V1 ∷ happens ∷ (if b then [] else [])) quiet.stays

    whole : Accepted who.carrier V1 ∷ happens ∷ [] ≡ Accepted who.carrier V1 ∷ notices_of_octets who quiet_connection (spelling f)
    whole =
        sym both_mean
        ∙ laws.opens who both
        ∙ laws.in_two who (new_connection who) (spelling hello) (spelling f)
        ∙ (λ i. hello_produces i ++ notices_of_octets who (hello_leaves i) (spelling f))

    pub frame_produces : notices_of_octets who quiet_connection (spelling f) ≡ happens ∷ []
    frame_produces = sym (ap (λ (ns : List Notice). drop 1 ns) whole)

    pub frame_leaves : connection_after_octets who quiet_connection (spelling f) ≡ quiet_connection
    frame_leaves =
        ap (λ (k : Connection). connection_after_octets who k (spelling f)) (sym hello_leaves)
        ∙ sym (fold-append (connection_after_octet who) (new_connection who) (spelling hello) (spelling f))
        ∙ sym (laws.left who both)
        ∙ octets-leave who both (hello ∷ f ∷ []) first_rest both_frames both_rest
        ∙ (λ i. if accepted i then (if quiet.stays i then Closed else Running first_rest (quiet.unnumbered i)) else Closed)

-- ---- records

pub added : (laws : ConnectionLaws) (who : CarrierIdentity) (rs : List Record) (piece : Piece) →
    drop (length (meaning_of_records who rs)) (meaning_of_records who (records_after rs piece)) ≡ piece_produces who
    (left_by_records who rs) piece
added laws who rs piece =
    ap (drop (length (meaning_of_records who rs))) (laws.adds who rs piece)
    ∙ drop_at (meaning_of_records who rs) (piece_produces who (left_by_records who rs) piece) (length (meaning_of_records who rs)) refl
