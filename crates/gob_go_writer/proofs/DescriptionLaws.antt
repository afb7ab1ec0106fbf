-- The tidy form of a description defines the type that the description defines, and isn't longer.
use Rattle.std.proofs.Common.{ℕ, ◌≤◌, List, [], ◌∷◌, ◌++◌, length, arith, length-append, subst, sym}
use Rattle.gob_num.specs.Unsigned.{AreBytes}
use Rattle.gob_num.proofs.PublicLaws.{bytes-append, bytes_prefix, bytes_rest}
use Rattle.gob_types.specs.Base.{base_table}
use Rattle.gob_types.specs.declared.id.TypeId.{TypeId}
use Rattle.gob_types.specs.Table.{Table}
use Rattle.gob_types.proofs.PublicLaws.{Keeps, extends_keeps}
use Rattle.gob_value.specs.Tree.{Tree}
use Rattle.gob_value.specs.View.{view}
use Rattle.gob_value.proofs.PublicLaws.{described_alike, said_stays, spelled_no_longer, spells_on, tidy_no_deeper}
use Rattle.gob_stream.specs.Bounds.{Bounds}
use Rattle.gob_stream.proofs.Stream.WireLaws.{fits_base, table_extends}
use Rattle.gob_filled.specs.Definition.{Defines, defines}
use Rattle.gob_filled.specs.Filled.{cut, Definitions, definition, AreDefined, none_defined, one_defined}
use Rattle.gob_filled.specs.Stream.{defining, IsFilledItem, of_definition}
use Rattle.gob_filled.proofs.Refused.{definition_keeps, in_turn}
use Rattle.gob_go.specs.Meaning.{definitions_of}
use Rattle.gob_go.specs.declared.filled.Definition.{Definition}
use Rattle.gob_go_writer.specs.Item.{IsGrown}
use Rattle.gob_go_writer.proofs.PartSteps.{defs_keep}
use Rattle.gob_go_writer.specs.TidyItem.{FitsAgain, TidiesDefinitions, tidies_none_defined, tidies_one_defined}
use Rattle.gob_go_writer.specs.Machine.Tidied.{AreDefinitionsTidied, AreDescriptions, IsDescriptionTidied}
use Rattle.gob_go_writer.proofs.EachLaws.{first_holds}
use Rattle.gob_go_writer.proofs.TidyLetterLaws.{NoLonger, last_no_longer, next_no_longer, counted_so}
use Rattle.gob_go_writer.proofs.StayLaws.{stays_tidy}

-- ---- a definition

record DefinesAgain (L : Bounds) (T : Table) (id : TypeId) (w : Tree) (b : List ℕ) (U : Table) : Type 0 where
  bytes : List ℕ
  defines : Defines base_table L T id w bytes U
  are_bytes : AreBytes b → AreBytes bytes
  shorter : length bytes ≤ length b

defines_again : {L : Bounds} {N T U : Table} {id : TypeId} {v w : Tree} {b : List ℕ} → Keeps T N
    → Defines base_table L T id v b U → IsDescriptionTidied N v w → DefinesAgain L T id w b U
defines_again keep (defines {a = a} {b = b} may deep loosely above sg sp) h =
    let here = spells_on keep sp in
    let fits = h.is.fits in
    let stays = stays_tidy keep sp h.tidies fits.spelled in
    let base = fits_base h.is.known (record { bytes = b; spelled = here }) in
    let in_base = stays_tidy (extends_keeps (table_extends h.is.known)) base.spelled h.tidies fits.spelled in
    let less = tidy_no_deeper h.tidies in
    let short = spelled_no_longer h.tidies here fits.spelled in
    record {
      bytes = a ++ fits.bytes;
      defines = defines may (omega arith) (record {
        said = loosely.said;
        describes = described_alike (said_stays base.spelled in_base.tidies) loosely.describes;
        allowed = loosely.allowed;
      }) above sg stays.spells;
      are_bytes = λ o. bytes-append a fits.bytes (bytes_prefix a b o) (stays.are_bytes (bytes_rest a b o));
      shorter = omega (arith, length-append a b, length-append a fits.bytes);
    }

-- an item
pub definition_fits : {L : Bounds} {N T U : Table} {offset lower : ℕ} {id : TypeId} {v w : Tree} {f : List ℕ}
    → IsDescriptionTidied N v w → IsFilledItem base_table L T offset (defining id v) f U → IsGrown U N
    → lower ≤ offset → FitsAgain L T offset (length f) (defining id w) U lower
definition_fits h (of_definition {c = c} {d = d} counts few short def) grown low =
    let again = defines_again (in_turn (definition_keeps def) (record { shape = grown })) def h in
    let less = again.shorter in
    let counted = counted_so again.bytes d counts less in
    let no_longer = counted.shorter in
    record {
      bytes = counted.count ++ again.bytes;
      is = of_definition counted.counts (omega arith) (omega arith) again.defines;
      shorter = no_longer;
    }

-- ---- definitions in a value

pub record DefinedAgain (L : Bounds) (T : Table) (ds : Definitions) (ls : List ℕ) (U : Table) : Type 0 where
  pub letters : List ℕ
  pub defined : AreDefined base_table L T ds letters U
  pub shorter : NoLonger letters ls

pub defined_again : {L : Bounds} {N T U : Table} {ds es : Definitions} {ls : List ℕ} → Keeps U N
    → AreDefined base_table L T ds ls U → TidiesDefinitions N ds es → AreDescriptions N es
    → DefinedAgain L T es ls U
defined_again keep none_defined tidies_none_defined tt =
    record { letters = []; defined = none_defined; shorter = last_no_longer [] [] tt tt (omega arith) }
defined_again keep (one_defined {b = b} o def more) (tidies_one_defined ti tis) (is, are) =
    let again = defines_again (in_turn (definition_keeps def) (in_turn (defs_keep more) keep)) def
    (record { tidies = ti; is = is }) in
    let rest = defined_again keep more tis are in
    record {
      letters = again.bytes ++ (cut ∷ rest.letters);
      defined = one_defined (again.are_bytes o) again.defines rest.defined;
      shorter = next_no_longer again.bytes b (again.are_bytes o) o again.shorter rest.shorter;
    }

-- ---- what is kept of them

pub record DefinitionsMoved (T : Table) (olds news : List Definition) : Type 0 where
  pub tidies : TidiesDefinitions T (definitions_of olds) (definitions_of news)
  pub are : AreDescriptions T (definitions_of news)

pub definitions_moved : {T : Table} (olds news : List Definition) → AreDefinitionsTidied T olds news
    → DefinitionsMoved T olds news
definitions_moved [] [] h = record { tidies = tidies_none_defined; are = tt }
definitions_moved [] (new ∷ news) h = absurd (let all = h.all in omega arith)
definitions_moved {T = T} (old ∷ olds) news h =
    let f = first_holds news h in
    let r = definitions_moved olds f.others f.others_hold in
    let one = f.holds in
    subst (DefinitionsMoved T (old ∷ olds)) (sym f.whole) (record {
      tidies = subst (λ (id : TypeId). TidiesDefinitions T (definitions_of (old ∷ olds))
          (definition id (view f.first.described) (definitions_of f.others))) (sym one.id)
          (tidies_one_defined one.described.tidies r.tidies);
      are = (one.described.is, r.are);
    })
