-- What the words of the command line ask for. (docs/FORMAT.md, The program: this project's own.)
use Rattle.std.specs.Prelude.{◌≡◌, ◌≢◌, ◌⊎◌, ⊤, ◌<◌, ◌≤◌, ◌^◌, ℕ, List, [], ◌∷◌, ◌++◌, length, codes, true}
use Rattle.std.specs.Prelude.{Option, Some, None, option_map, IfSome, encode_utf8, string_bytes}
use Rattle.std.specs.Borrow.{Bor}
use Rattle.std.specs.Int.{IsInRange}
use Rattle.std.specs.List.{All}
use Rattle.std.specs.Str.Parse.{digits_value}
use Rattle.clap.specs.Words.{App, Row, Rule, Text, first_of, new_app, new_rule, subcommand_of, with_rule}
use Rattle.clap.specs.Words.{with_subcommand, takes, fault_of, IsAmong}
use Rattle.clap.specs.declared.builder.action.ArgAction.TheVariants.{Append, SetTrue}
use Rattle.clap.specs.declared.error.kind.ErrorKind.{ErrorKind}
use Rattle.clap.specs.declared.error.kind.ErrorKind.TheVariants.{DisplayHelp, OutOfMemory}
use Rattle.gob_words.specs.Depths.{most_depth}
use Rattle.gob_words.specs.declared.words.Chosen.{Chosen}
use Rattle.gob_words.specs.declared.words.Chosen.TheVariants as chosen
use Rattle.gob_words.specs.declared.words.Order.{Order}
use Rattle.gob_words.specs.declared.words.OrderFault.{OrderFault}
use Rattle.gob_words.specs.declared.words.OrderFault.TheVariants as fault

-- ---- the words that there are, for clap, which says what words mean

-- an option of one word
abbrev pub option_rule : Text → Rule
option_rule name = record (new_rule name) { long = Some name; value_names = 1 }

-- an option of no word
abbrev pub flag_rule : Text → Rule
flag_rule name = record (new_rule name) { long = Some name; action = Some SetTrue }

abbrev pub with_options : Text → App
with_options name =
    with_rule (with_rule (new_app name) (option_rule (codes "depth"))) (option_rule (codes "item"))

abbrev pub with_input : App → App
with_input app = with_rule app (new_rule (codes "IN"))

-- the flag for which it is told how far the reading is
abbrev pub with_progress : App → App
with_progress app = with_rule app (flag_rule (codes "progress"))

-- the flag for which what isn't damaged is shown
abbrev pub with_salvage : App → App
with_salvage app = with_rule app (flag_rule (codes "salvage"))

-- a command on one stream
abbrev pub one_stream : Text → App
one_stream name = with_input (with_options name)

-- a command on a stream, and before it on the one that has the wanted type
abbrev pub two_streams : Text → App
two_streams name =
    with_input (with_rule (with_options name) (record (new_rule (codes "WANTED")) { required = true }))

-- a command with the flag that says that Go's encoder wrote the stream, and the one for progress
abbrev pub with_go : Text → App
with_go name = with_progress (with_rule (with_options name) (flag_rule (codes "go")))

-- the command that shows items, with the flag for which numbers are texts
abbrev pub show : App
show = with_input (with_rule (with_salvage (with_go (codes "show"))) (flag_rule (codes "numbers-as-text")))

-- the command that counts them
abbrev pub check : App
check = with_input (with_go (codes "check"))

-- the command that writes a stream anew, which has beside that flag the one for definitions in values
abbrev pub with_go_flags : App → App
with_go_flags app = with_rule (with_rule app (flag_rule (codes "go"))) (flag_rule (codes "hoist"))

abbrev pub rewrite : App
rewrite = with_input (with_go_flags (with_options (codes "rewrite")))

-- the flags and the option that say how values are shown, and which
abbrev pub with_flags : App → App
with_flags app = with_rule (with_rule (with_rule app (flag_rule (codes "zeros"))) (flag_rule (codes "raw")))
    (flag_rule (codes "tagged"))

abbrev pub with_types : App → App
with_types app = with_rule (with_rule app (flag_rule (codes "typed"))) (option_rule (codes "only"))

-- what the bytes of types are, in a word of an option that may be given several times
abbrev pub kinds_rule : Rule
kinds_rule = record (option_rule (codes "as")) { action = Some Append }

-- the flag for a line an element, the option for what bytes are, and the flag for progress
abbrev pub with_elements : App → App
with_elements app = with_progress (with_rule (with_rule app (flag_rule (codes "each"))) kinds_rule)

-- the command that shows values
abbrev pub values : App
values = with_input (with_salvage (with_elements (with_types (with_flags (with_options (codes "values"))))))

-- the command that shows types, with the flag for a program
abbrev pub types : App
types = with_input (with_salvage (with_progress (with_rule (with_options (codes "types")) (flag_rule (codes "main")))))

-- the command that keeps what isn't damaged, with the option for the file that has types
abbrev pub salvage : App
salvage = with_rule (one_stream (codes "salvage")) (option_rule (codes "types"))

-- the command that shows values of a wanted type, with the flag for which it shows what `convert` writes
abbrev pub take : App
take = with_rule (two_streams (codes "take")) (flag_rule (codes "go"))

-- which field has another name, in a word of an option that may be given several times
abbrev pub renames_rule : Rule
renames_rule = record (option_rule (codes "rename")) { action = Some Append }

-- the command that writes values of a wanted type, with the flag for values all of whose fields are wanted
abbrev pub convert : App
convert = with_rule (with_rule (two_streams (codes "convert")) renames_rule) (flag_rule (codes "all"))

-- the flag and the option that say which part of a stream is shown
abbrev pub with_parts : App → App
with_parts app = with_rule (with_rule app (flag_rule (codes "fault"))) (option_rule (codes "at"))

-- the command that explains bytes
abbrev pub explain : App
explain = with_input (with_parts (with_options (codes "explain")))

-- the names of one or more files
abbrev pub files_rule : Rule
files_rule = record (new_rule (codes "FILE")) { required = true; action = Some Append }

-- the command that reads some streams
abbrev pub verify : App
verify = with_rule (with_progress (with_options (codes "verify"))) files_rule

-- a file that a command can't do without
abbrev pub needed_rule : Text → Rule
needed_rule name = record (new_rule name) { required = true }

-- the options for the size of a part
abbrev pub with_sizes : App → App
with_sizes app = with_rule (with_rule app (option_rule (codes "size"))) (option_rule (codes "values"))

-- the command that splits a stream into the files of a directory
abbrev pub split : App
split = with_rule (with_rule (with_sizes (with_options (codes "split"))) (needed_rule (codes "IN")))
    (needed_rule (codes "DIR"))

-- the command that joins some streams
abbrev pub join : App
join = with_rule (with_options (codes "join")) files_rule

-- the command that writes the stream of lines, with the flag for those of `show --go` and the option for long ones
abbrev pub write : App
write = with_input (with_rule (with_rule (with_options (codes "write")) (flag_rule (codes "go")))
    (option_rule (codes "line")))

-- the command that writes the stream of plain JSON, with the options for its types and lines
abbrev pub with_made : App → App
with_made app = with_rule (with_rule (with_rule app (option_rule (codes "types"))) (option_rule (codes "type")))
    (flag_rule (codes "lenient"))

abbrev pub make : App
make = with_input (with_made (with_rule (with_options (codes "make")) (option_rule (codes "line"))))

-- the program without a command
abbrev pub bare_program : App
bare_program =
    let top = (new_app (codes "gob")).top in
    record { top = record top { has_version = true; subcommand_required = true }; subs = [] }

-- the commands for people
abbrev pub people_program : App
people_program =
    with_subcommand (with_subcommand
    (with_subcommand (with_subcommand (with_subcommand (with_subcommand (with_subcommand
    (with_subcommand bare_program values.top) types.top) (one_stream (codes "why")).top) explain.top) verify.top)
    salvage.top) split.top) join.top

-- and those that write exactly what a stream has
abbrev pub program : App
program =
    with_subcommand (with_subcommand
    (with_subcommand (with_subcommand (with_subcommand (with_subcommand (with_subcommand
    (with_subcommand people_program show.top) check.top) rewrite.top) take.top)
    convert.top) write.top) make.top) (new_app (codes "version")).top

-- ---- what they say

abbrev pub name_of : Chosen → Text
name_of chosen.Show = codes "show"
name_of chosen.Check = codes "check"
name_of chosen.Rewrite = codes "rewrite"
name_of chosen.Take = codes "take"
name_of chosen.Convert = codes "convert"

-- one of the characters 0 to 9
abbrev pub IsDigit : ℕ → Type 0
IsDigit = IsInRange 48 57

-- the number of 64 bits that a word of one or more digits writes, or without a word the usual one
abbrev pub IsNumber : Option Text → (usual n : ℕ) → Type 0
IsNumber None usual n = n ≡ usual
IsNumber (Some word) usual n = (0 < length word) × All IsDigit word × (n ≡ digits_value 10 word) × (n < 2 ^ 64)

-- the name of the file that has the wanted type
abbrev pub wanted_in : Chosen → List Row → Option Text
wanted_in chosen.Take rows = first_of (codes "WANTED") rows
wanted_in chosen.Convert rows = first_of (codes "WANTED") rows
wanted_in _ rows = None

-- the text of a word
abbrev pub text_of : Option (Bor Text) → Option Text
text_of = option_map (λ word. word.now)

-- by clap's value of it a flag is given: the word true where it is, and else false or none
abbrev pub IsSet : Option Text → Type 0
IsSet value = value ≡ Some (codes "true")

-- clap met a subcommand with these rows, and this is the order that they make: none with a flag for Go's encoder, or
-- with the one for progress or for what isn't damaged
pub record IsOrderOf (met : Option (Text × List Row)) (order : Order) : Type 0 where
  pub rows : List Row
  pub command : met ≡ Some (name_of order.command, rows)
  pub wanted : text_of order.wanted ≡ wanted_in order.command rows
  pub plain : ¬ IsSet (first_of (codes "go") rows)
  pub in_place : ¬ IsSet (first_of (codes "hoist") rows)
  pub quiet : ¬ IsSet (first_of (codes "progress") rows)
  pub whole : ¬ IsSet (first_of (codes "salvage") rows)
  pub input : text_of order.input ≡ first_of (codes "IN") rows
  pub depth : IsNumber (first_of (codes "depth") rows) 1000 order.depth
  pub item : IsNumber (first_of (codes "item") rows) 67108864 order.item
  pub least : 1 ≤ order.depth
  pub most : order.depth ≤ most_depth order.command

-- the words, the program's name first, ask for this
unfoldable pub Asks : List Text → Order → Type 0
Asks words order = IsOrderOf (subcommand_of program words) order

-- clap finds nothing against the words
unfoldable pub HasNoFault : List Text → Type 0
HasNoFault words = fault_of program words ≡ []

-- the text is what is shown, without its last character
pub data IsWithoutLast (shown text : Text) : Type 0 where
  of_nothing : shown ≡ [] → text ≡ [] → IsWithoutLast shown text
  of_more : (last : ℕ) → shown ≡ text ++ encode_utf8 last → IsWithoutLast shown text

-- the fault of words that clap answers with an error of this kind, which shows this, where that is known
abbrev pub IsFaultOf : ErrorKind → Option Text → OrderFault → Type 0
IsFaultOf kind shown (fault.Help text) =
    (kind ≡ DisplayHelp) × IfSome shown (λ bytes. IsWithoutLast bytes (string_bytes text))
IsFaultOf kind shown fault.Words = (kind ≢ OutOfMemory) × (kind ≢ DisplayHelp)
IsFaultOf kind shown fault.Memory = (kind ≡ OutOfMemory) ⊎ (kind ≡ DisplayHelp)

-- clap has no other answer to the words than help
abbrev pub AsksForHelp : List Text → Type 0
AsksForHelp words = fault_of program words ≡ DisplayHelp ∷ []

-- what the words do where they give no order: they ask for help, or clap refuses them or no order is what they ask for,
-- and then help isn't all that they ask for
unfoldable pub Refuses : List Text → OrderFault → Type 0
Refuses words (fault.Help text) = IsAmong DisplayHelp (fault_of program words)
Refuses words fault.Words = (takes program words ≡ true
    → (order : Order) → ¬ IsOrderOf (subcommand_of program words) order) × ¬ AsksForHelp words
Refuses words fault.Memory = ⊤

-- ---- what comes of them

-- the exit status of the program behind a fault of its words
abbrev pub order_status : OrderFault → ℕ
order_status (fault.Help text) = 0
order_status fault.Words = 2
order_status fault.Memory = 2

-- what is printed then
abbrev pub order_line : OrderFault → List ℕ
order_line (fault.Help text) = text.bytes.items
order_line fault.Words = codes "gob: bad arguments"
order_line fault.Memory = codes "gob: out of memory"
