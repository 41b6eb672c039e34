-- The registered radios of a site by the entries of a journal, oldest first.
use Rattle.std.specs.Prelude.{ℕ, List, fold}
use Rattle.dmr_core.specs.declared.entry.Entry.{Entry}
use Rattle.dmr_core.specs.Facts.{registered_by_act}

-- the radios after an entry, as the site has them
abbrev pub registered_after_entry : List ℕ → Entry → List ℕ
registered_after_entry radios entry = fold registered_by_act radios entry.acts.list

-- the radios after a journal, in the order of joining
abbrev pub registered_after : List ℕ → List Entry → List ℕ
registered_after radios journal = fold registered_after_entry radios journal
