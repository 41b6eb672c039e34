-- The numbers of this crate's definitions that this project's profile states.
use Rattle.std.specs.Prelude.{ℕ}

-- the most radios that can be registered at a time
abbrev pub most_radios : ℕ
most_radios = 4096

-- the most radios that a reply lists
abbrev pub most_listed : ℕ
most_listed = 16
