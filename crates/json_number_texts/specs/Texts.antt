-- JSON text in which each number outside of strings is a text of its digits. (RFC 8259, sections 6 and 7;
-- docs/FORMAT.md, The JSON lines: this project's own.)
use Rattle.std.specs.Prelude.{ℕ, List, [], ◌∷◌, ◌++◌, Bool, false, not, ◌==◌, ◌||◌, if◌then◌else◌}
use Rattle.std.specs.Char.{is_ascii_digit}
use Rattle.serde_json.specs.Data.{Data, null, boolean, number, string, array, object, Items, no_items, item, Members}
use Rattle.serde_json.specs.Data.{no_members, member}
use Rattle.serde_json.specs.Written.{compact_text, number_text}
use Rattle.json_number_texts.specs.declared.place.Place.{Place}
use Rattle.json_number_texts.specs.declared.place.Place.TheVariants as place

-- ---- over bytes

-- a number may begin with the byte: a digit or a minus
abbrev pub begins_number : ℕ → Bool
begins_number x = is_ascii_digit x || x == 45

-- the byte may stand in a number: a digit, - + . e or E
abbrev pub goes_on : ℕ → Bool
goes_on x = is_ascii_digit x || (x == 45 || (x == 43 || (x == 46 || (x == 101 || x == 69))))

-- the place behind a byte that belongs to no number or string before it
abbrev pub opened : ℕ → Place
opened x = if x == 34 then place.InString else if begins_number x then place.InNumber else place.Outside

-- the place behind a byte
abbrev pub after : Place → ℕ → Place
after place.Outside x = opened x
after place.InNumber x = if goes_on x then place.InNumber else opened x
after place.InString x =
    if x == 34 then place.Outside else if x == 92 then place.BehindBackslash else place.InString
after place.BehindBackslash x = place.InString

-- a number begins with the byte, or has ended before it
abbrev pub is_edge : Place → ℕ → Bool
is_edge place.Outside x = begins_number x
is_edge place.InNumber x = not (goes_on x)
is_edge place.InString x = false
is_edge place.BehindBackslash x = false

-- the bytes with a quote at each edge
abbrev pub with_texts : Place → List ℕ → List ℕ
with_texts p [] = []
with_texts p (x ∷ xs) = (if is_edge p x then 34 ∷ [] else []) ++ x ∷ with_texts (after p x) xs

-- the place behind bytes
abbrev pub place_after : Place → List ℕ → Place
place_after p [] = p
place_after p (x ∷ xs) = place_after (after p x) xs

-- ---- over values

-- the value with a string of its digits in the place of each number
abbrev mutual
  pub as_texts : Data → Data
  as_texts null = null
  as_texts (boolean b) = boolean b
  as_texts (number n) = string (number_text n)
  as_texts (string s) = string s
  as_texts (array ds) = array (items_as_texts ds)
  as_texts (object ms) = object (members_as_texts ms)

  pub items_as_texts : Items → Items
  items_as_texts no_items = no_items
  items_as_texts (item d ds) = item (as_texts d) (items_as_texts ds)

  pub members_as_texts : Members → Members
  members_as_texts no_members = no_members
  members_as_texts (member k d ms) = member k (as_texts d) (members_as_texts ms)

-- the compact text of each value, with a line feed behind it
abbrev pub lines : List Data → List ℕ
lines [] = []
lines (d ∷ ds) = compact_text d ++ 10 ∷ lines ds
