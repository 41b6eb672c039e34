-- The facts about this crate's definitions that other crates' proofs may cite.
use Rattle.std.proofs.Common.{◌≡◌, ℕ, List, ◌++◌, refl}
use Rattle.std.proofs.lemmas.List.Sums.{fold-append}
use Rattle.dmr_pdu.proofs.Laws.{items-append}
use Rattle.dmr_frames.specs.Rest.{Rest}
use Rattle.dmr_frames.specs.Reading.{frame_of, frames_from, rest_after_octet, rest_after_octets, step_from}
use Rattle.dmr_frames.specs.declared.version.Version.{Version}
use Rattle.dmr_frames.specs.declared.version.Version.TheVariants.{V1, V2}
use Rattle.dmr_frames.specs.Versions.{named_or_first, version_octet}
-- octets have one reading by each table: the frames that they produce one by one, and the rest
pub use Rattle.dmr_frames.proofs.StreamLemmas.{readings-same}
pub use Rattle.dmr_frames.proofs.ReadingLemmas.{reads_all}
-- a frame can follow from no octets, and an open rest is read as itself
pub use Rattle.dmr_frames.proofs.ReadingLemmas.{open_nothing, reads_open}
-- a reading continues with one more octet, from the rest before it
pub use Rattle.dmr_frames.proofs.ReadingLemmas.{reads_on}
-- the octets of a part of a frame produce nothing and are kept, and those of a frame produce it and leave nothing
pub use Rattle.dmr_frames.proofs.ReadingLemmas.{open-produces, spelling-produces}

-- two pieces produce the frames of the first, and then those of the second from the rest of the first
pub frames_from-append : (rest : Rest) (a b : List ℕ) → frames_from rest (a ++ b) ≡ frames_from rest a ++ frames_from
    (rest_after_octets rest a) b
frames_from-append rest a b = items-append rest_after_octet step_from frame_of rest a b

-- two pieces leave the rest that the second leaves of that of the first
pub rest_after_octets-append : (rest : Rest) (a b : List ℕ) → rest_after_octets rest (a ++ b) ≡ rest_after_octets
    (rest_after_octets rest a) b
rest_after_octets-append rest a b = fold-append rest_after_octet rest a b

-- a version's octet names it
pub octet_names : (version : Version) → named_or_first (version_octet version) ≡ version
octet_names V1 = refl
octet_names V2 = refl
