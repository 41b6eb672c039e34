-- The text of statements, by the columns of their tables.
use Rattle.std.specs.Prelude.{ℕ, ◌+◌, List, [], ◌∷◌, ◌++◌, map, codes, decimal}
use Prim.Native.String.{String}

-- a column: its name, its type, and the version of the tables that it is there since
pub record Column : Type 0 where
  pub name : List ℕ
  pub type : List ℕ
  pub since : ℕ

-- a column that is there since the first version
abbrev pub column_of : String → String → Column
column_of type name = record { name = codes name; type = codes type; since = 1 }

-- the number of a row
abbrev pub key : String → Column
key name = column_of "INTEGER PRIMARY KEY" name

-- an integer, and a word
abbrev pub integer : String → Column
integer name = column_of "INTEGER NOT NULL" name

abbrev pub word : String → Column
word name = column_of "TEXT NOT NULL" name

-- the same, or NULL
abbrev pub integer_or_null : String → Column
integer_or_null name = column_of "INTEGER" name

abbrev pub word_or_null : String → Column
word_or_null name = column_of "TEXT" name

-- a column that is there since this version
abbrev pub added_in : ℕ → Column → Column
added_in version c = record c { since = version }

-- texts with a comma after each but the last
abbrev pub after_commas : List (List ℕ) → List ℕ
after_commas [] = []
after_commas (it ∷ later) = codes ", " ++ it ++ after_commas later

abbrev pub listed : List (List ℕ) → List ℕ
listed [] = []
listed (it ∷ later) = it ++ after_commas later

abbrev pub names_of : List Column → List ℕ
names_of columns = listed (map (λ (c : Column). c.name) columns)

-- a parameter for each column, by its number
abbrev pub parameters : ℕ → List Column → List (List ℕ)
parameters n [] = []
parameters n (c ∷ later) = (codes "?" ++ decimal n) ∷ parameters (n + 1) later

-- the statement that writes a row
abbrev pub insert_into : String → List Column → List ℕ
insert_into table columns =
    codes "INSERT INTO " ++ codes table ++ codes " (" ++ names_of columns ++ codes ") VALUES ("
    ++ listed (parameters 1 columns) ++ codes ")"

-- the statement that makes a table of these columns, with what is said of more than one of them
abbrev pub create_table : List ℕ → List Column → List (List ℕ) → List ℕ
create_table table columns together =
    codes "CREATE TABLE " ++ table ++ codes " ("
    ++ listed (map (λ (c : Column). c.name ++ codes " " ++ c.type) columns ++ together)
    ++ codes ") STRICT;"

-- the statement that writes the rows of one table into another
abbrev pub copy_rows : List Column → List ℕ → List ℕ → List ℕ
copy_rows columns from to =
    codes "INSERT INTO " ++ to ++ codes " (" ++ names_of columns ++ codes ") SELECT "
    ++ names_of columns ++ codes " FROM " ++ from ++ codes ";"

abbrev pub drop_table : List ℕ → List ℕ
drop_table table = codes "DROP TABLE " ++ table ++ codes ";"
