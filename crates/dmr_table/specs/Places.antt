-- The places of entries, in the order of their keys.
use Rattle.std.specs.Prelude.{◌≡◌, ℕ, ◌+◌, ◌-◌, ◌*◌, ◌<◌, ◌≤◌, List, length, nat_lt, slice_index_or}
use Rattle.std.specs.Prelude.{if◌then◌else◌}
use Rattle.std.specs.List.{All, AllPairs}
use Rattle.dmr_table.specs.declared.places.Place.{Place}
use Rattle.dmr_table.specs.Limits.{most_entries}

-- the rank orders places by their keys, and those of one key by their index
abbrev pub rank_of : Place → ℕ
rank_of p = p.key * most_entries + p.index

-- the ranks of places ascend, so no place occurs twice
abbrev pub AreAscending : List Place → Type 0
AreAscending places = AllPairs (λ p q. rank_of p < rank_of q) places

-- exactly the places below the rank are before the gap
pub record IsGap (places : List Place) (rank gap : ℕ) : Type 0 where
  pub within : gap ≤ length places
  pub below : (k : ℕ) (d : Place) → k < gap → rank_of (slice_index_or places k d) < rank
  pub above : (k : ℕ) (d : Place) → gap ≤ k → k < length places
      → rank ≤ rank_of (slice_index_or places k d)

-- the first place from the key on
pub record HasFirst (places : List Place) (key first : ℕ) : Type 0 where
  pub within : first < length places
  pub gap : IsGap places (key * most_entries) first

-- a place after the entry at another was removed
abbrev pub place_after_removal : ℕ → Place → Place
place_after_removal removed p =
    record { key = p.key; index = if nat_lt removed p.index then p.index - 1 else p.index }

-- the place is that of an entry with its key
pub record IsPlaceIn {X : Type 0} (key_of : X → ℕ) (entries : List X) (p : Place) : Type 0 where
  pub within : p.index < length entries
  pub same : (d : X) → key_of (slice_index_or entries p.index d) ≡ p.key

-- the places are those of all entries, in the order of the keys
pub record ArePlaces {X : Type 0} (key_of : X → ℕ) (entries : List X)
    (places : List Place) : Type 0 where
  pub as_many : length places ≡ length entries
  pub ascending : AreAscending places
  pub each : All (IsPlaceIn key_of entries) places
  pub all : (n : ℕ) → n < length entries
      → (i : ℕ) × (i < length places) × ((d : Place) → (slice_index_or places i d).index ≡ n)

-- the invariant of a table: its room, and its places
pub record IsTable (most entry_count entry_room place_count place_room : ℕ) {X : Type 0}
    (key_of : X → ℕ) (entries : List X) (of_them : List Place) : Type 0 where
  pub small : most ≤ most_entries
  pub few : entry_count ≤ most
  pub room : most ≤ entry_room
  pub places_few : place_count ≤ most
  pub places_room : most ≤ place_room
  pub places : ArePlaces key_of entries of_them
