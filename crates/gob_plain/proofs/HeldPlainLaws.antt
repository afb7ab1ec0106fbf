-- What a value says whose nils are filled, where a text is put together for each that it holds.
use Rattle.std.proofs.Common.{◌≡◌, ◌∙◌, ℕ, zero, suc, ◌+◌, Bool, true, false, List, [], ◌∷◌, ◌++◌}
use Rattle.std.proofs.Common.{Option, Some, None, arith, ap, refl, sym, subst, get_or, take, append_assoc, append-nil}
use Rattle.std.specs.Prelude.{slice_get}
use Rattle.std.specs.Borrow.{Bor}
use Rattle.json.specs.Json.{Json}
use Rattle.json.specs.Json as json
use Rattle.json.specs.Lex.{tokens}
use Rattle.json.specs.Print.{print}
use Rattle.json.specs.Tree.{json_tokens}
use Rattle.gob_types.specs.declared.id.TypeId.{TypeId}
use Rattle.gob_types.specs.Table.{Table, shape_of}
use Rattle.gob_value.specs.Tree.{Pairs, Tree}
use Rattle.gob_value.specs.Top.{SpellsTop}
use Rattle.gob_read.specs.Held.{PartialBody}
use Rattle.gob_json.specs.Json.{element_type, key_type}
use Rattle.gob_tape.specs.Flat.{Flat}
use Rattle.gob_tape.specs.Meaning.{Means}
use Rattle.gob_plain.specs.declared.style.Style.{Style}
use Rattle.gob_plain.specs.declared.fillers.Filler.{Filler}
use Rattle.gob_plain.specs.declared.go.level.HeldText.{HeldText}
use Rattle.gob_plain.specs.declared.go.level.OwnText.{OwnText}
use Rattle.gob_plain.specs.OpaqueText.{content_in}
use Rattle.gob_plain.specs.Filled.{SaysListed, SaysValue, SaysValueWith, listed_pairs, shown, shown_pairs, within}
use Rattle.gob_plain.specs.Plain.{all_null, nils, nils_of_pairs}
use Rattle.gob_plain.specs.Fillers.{FillerSays}
use Rattle.gob_plain.specs.Machine.Levels.{LevelSays, held_of, level_of, level_says, name_of, named_json, text_of}
use Rattle.gob_plain.specs.Machine.Nulls.{all_held, own_json}
use Rattle.gob_plain.specs.Machine.Parting.{AreParted, none_parted, nothing_parted, then_parted}
use Rattle.gob_plain.specs.Machine.Placing.{AllFit, AreIn, HeldFits, IsTag, filler_in, none_fits, none_left, nothing_in}
use Rattle.gob_plain.specs.Machine.Placing.{then_fits}
use Rattle.gob_plain.proofs.LevelLaws.{bare_says}
use Rattle.gob_plain.proofs.ListedLaws.{value_as_much}
use Rattle.gob_plain.proofs.NullLaws.{Becomes, Own, Whole, all_become, listed_held, opened, said_at, value_held}
use Rattle.gob_plain.proofs.PartingLaws.{AllSay, PartedSay, held_says, none_say, nothing_says, parted_say}
use Rattle.gob_filled.specs.Filled as spelled
use Rattle.gob_filled.specs.Filled.{Fillings, filling, no_filling}
use Rattle.gob_go.specs.Meaning.{IsFilled, is_filled, AreFillings, definitions_of, no_fillings, filling_then}
use Rattle.gob_go.specs.declared.filled.Filled.{Filled, out-Filled}
use Rattle.gob_go.specs.declared.filled.Filling.{Filling, out-Filling}
use Rattle.gob_json_writer.specs.Gaps.{AreGaps, end_of_gaps, gap_before}
use Rattle.gob_plain.specs.HeldPlain.{nil_parts, tagged_json, SaysFilled, says_filled, NilsSay, no_nil, says_null}
use Rattle.gob_plain.specs.HeldPlain.{says_held}

-- ---- filling by filling

-- what is said of the rest, behind what was put together, is said of all
abbrev pub FitWithRest : Bool → Style → Table → (rest all : List Filling) → List HeldText → Type 0
FitWithRest tagged style T rest all held = (more : List HeldText) → AllFit tagged style T rest more
    → AllFit tagged style T all (held ++ more)

pub fit_more : {tagged : Bool} {style : Style} {T : Table} {kept : Filling} {rest all : List Filling}
    {new : List HeldText} {one : HeldText} (held : List HeldText) → FitWithRest tagged style T (kept ∷ rest) all held
    → new ≡ held ++ one ∷ [] → HeldFits tagged style T kept one → FitWithRest tagged style T rest all new
fit_more {tagged = tagged} {style = style} {T = T} {all = all} {one = one} held so e p = λ more h.
    subst (AllFit tagged style T all) (sym (append_assoc held (one ∷ []) more) ∙ ap (λ l. l ++ more) (sym e))
    (so (one ∷ more) (then_fits p h))

pub all_fit : {tagged : Bool} {style : Style} {T : Table} {all : List Filling} {held : List HeldText}
    → FitWithRest tagged style T [] all held → AllFit tagged style T all held
all_fit {tagged = tagged} {style = style} {T = T} {all = all} {held = held} so =
    subst (AllFit tagged style T all) (append-nil held) (so [] none_fits)

-- ---- nil by nil

pub held_in : {tagged : Bool} {style : Style} {T : Table} {behind : ℕ} {ns gaps : List ℕ} {kept : List Filling}
    {held : List HeldText} {all : List (Option HeldText)} → AreIn behind ns gaps held all
    → AllFit tagged style T kept held
    → AllSay all
held_in none_left s = tt
held_in (nothing_in h) s = (tt, held_in h s)
held_in (filler_in e h) (then_fits p s) = (p.some, held_in h s)

-- what is said by the nils of a value that is spelled so, and by those that are parted
pub record NilsSaid (tagged : Bool) (style : Style) (T : Table) (t : TypeId) (b ns : List ℕ) (fs : Fillings)
    (texts : List (Option Filler)) (held : List (Option HeldText)) : Type 0 where
  pub nils : PartedSay texts held
  pub says : NilsSay tagged style T t b ns fs nils.said

tagged_named : (tagged : Bool) (name : List ℕ) (o : Option (Bor (List ℕ))) (i : Json) → IsTag tagged name o
    → named_json o i ≡ tagged_json tagged name i
tagged_named true name o i n =
    ap (λ (o : Option (Bor (List ℕ))). named_json o i) n.1 ∙ ap (λ s. tagged_json true s i) n.2
tagged_named false name o i n = ap (λ (o : Option (Bor (List ℕ))). named_json o i) n

pub nils_said : {tagged : Bool} {style : Style} {T : Table} {t : TypeId} {b : List ℕ} {behind : ℕ} {ns gaps : List ℕ}
    {kept : List Filling} {fillers : List HeldText} {all : List (Option HeldText)} {fs : Fillings} {texts : List (Option
    Filler)} {held : List (Option HeldText)}
    → AreIn behind ns gaps fillers all → AreGaps T t b behind kept gaps → AllFit tagged style T kept fillers
    → AreFillings T kept fs → AreParted all texts held → NilsSaid tagged style T t b ns fs texts held
nils_said none_left end_of_gaps none_fits no_fillings none_parted = record { nils = none_say; says = no_nil }
nils_said (nothing_in h) g s a (then_parted nothing_parted p) =
    let n = nils_said h g s a p in record { nils = nothing_says n.nils; says = says_null n.says }
nils_said {tagged = tagged} {style = style} {T = T} {t = t} {b = b}
    (filler_in {n = n} {nils = ns} {gaps = gaps} {f = f} {fs = fillers} {all = others} e h)
    (gap_before {kept = kept} i g) (then_fits fits s) (filling_then {w = w} {fs = fs} m a) (then_parted one p) =
    let rest = nils_said (subst (λ k. AreIn (k + 1) ns gaps fillers others) e h) g s a p in
    let said = fits.says w m in
    let name = (out-Filling kept).name.items in
    let all = held_says one said.0 said.2 rest.nils in
    let fillings = filling (out-Filling kept).place name (definitions_of (out-Filling kept).definitions.items)
    (out-Filling kept).id w fs in
    record {
      nils = all.0;
      says = subst (λ l. NilsSay tagged style T t b (n ∷ ns) fillings l)
          (ap (λ j. j ∷ rest.nils.said) (sym (tagged_named tagged name (name_of f) said.0 fits.name)) ∙ sym all.1)
          (says_held
          (subst (λ k. PartialBody T t (take (out-Filling kept).place b) k i.raws) (sym i.held_is ∙ sym e) i.partial)
          said.1 rest.says);
    }

-- ---- the text

-- a text of the value of the tape with what its nils say in it
abbrev pub TapeText : Style → Table → TypeId → Flat → List (Option Filler) → List ℕ → Type 0
TapeText style T t tape texts text = (v : Tree) → Means tape v
    → (j : Json) × SaysValueWith (λ k i. FillerSays (slice_get texts (0 + k)) i) style T t v j
    × (text ≡ print (json_tokens j)) × (tokens text ≡ json_tokens j)

-- what a level says
abbrev pub LevelText : Bool → Style → Table → TypeId → Filled → OwnText → Type 0
LevelText tagged style T t value level = (w : spelled.Filled) → IsFilled T t value w
    → (j : Json) × SaysFilled tagged style T t w j × LevelSays level j

-- with what its nulls stand for
pub own_held : (style : Style) (T : Table) (t : TypeId) (v : Tree) (own : Json) (level : OwnText) (texts : List (Option
    Filler)) (p : PartedSay texts (held_of level))
    → SaysValueWith (λ k i. FillerSays (slice_get texts (0 + k)) i) style T t v own
    → tokens (text_of level) ≡ json_tokens own
    → (j : Json) × SaysValueWith (λ k i. i ≡ get_or p.said k json.null) style T t v j × LevelSays level j
own_held style T t v own level texts p s e =
    by (listed_pairs style v)
    (value_as_much (λ k i. FillerSays (slice_get texts (0 + k)) i) (Own (said_at p.said)) style T t v own
    (λ k i q. p.each k i (subst (λ m. FillerSays (slice_get texts m) i) (omega arith) q)) s)
  where
    held : (n : ℕ) (j : Json) → Becomes (opened (said_at p.said) n) (json_tokens own) (json_tokens j)
        → own_json j ≡ own_json own → LevelSays level j
    held n j becomes alike =
        level_says own (all_held p.said) e p.nulls (all_become p.said n (json_tokens own) (json_tokens j) becomes) alike

    by : (o : Option Pairs) → SaysListed o (Own (said_at p.said)) style T t v own
        → (j : Json) × SaysListed o (Whole (said_at p.said)) style T t v j × LevelSays level j
    by None s =
        let w = shown style T t v in
        let h = value_held (said_at p.said) (content_in style) T t w own s in
        (h.json, h.says, held (nils T t w) h.json h.becomes h.alike)
    by (Some ps) s =
        let k = key_type (shape_of T t) in
        let d = element_type (shape_of T t) in
        let w = shown_pairs style T k d ps in
        let h = listed_held (said_at p.said) (content_in style) T k d w own s in
        (h.json, h.says, held (nils_of_pairs T k d w) h.json h.becomes h.alike)

pub some_said : (style : Style) (T : Table) (t : TypeId) {texts : List (Option Filler)} {all : List (Option HeldText)}
    (level : OwnText) → AreParted all texts (held_of level) → AllSay all → (v : Tree)
    → (own : Json) × SaysValueWith (λ k i. FillerSays (slice_get texts (0 + k)) i) style T t v own
    × (text_of level ≡ print (json_tokens own)) × (tokens (text_of level) ≡ json_tokens own)
    → (j : Json) × LevelSays level j
some_said style T t {texts = texts} level parted all v own =
    let h = own_held style T t v own.0 level texts (parted_say parted all) own.1 own.3 in (h.0, h.2)

pub held_fits : {tagged : Bool} {style : Style} {T : Table} {kept : Filling} {held : HeldText}
    {name : Option (Bor (List ℕ))} {level : OwnText} → name_of held ≡ name → level_of held ≡ level
    → IsTag tagged (out-Filling kept).name.items name
    → (i : Json) × LevelSays level i → LevelText tagged style T (out-Filling kept).id (out-Filling kept).value level
    → HeldFits tagged style T kept held
held_fits {tagged = tagged} {style = style} {T = T} {kept = kept} n l tag some says = record {
  name = subst (IsTag tagged (out-Filling kept).name.items) (sym n) tag;
  some = subst (λ l. (i : Json) × LevelSays l i) (sym l) some;
  says = subst (LevelText tagged style T (out-Filling kept).id (out-Filling kept).value) (sym l) says;
}

pub level_said : {tagged : Bool} {style : Style} {T : Table} {t : TypeId} {value : Filled} {tape : Flat}
    {nils gaps : List ℕ} {fillers : List HeldText} {all : List (Option HeldText)} {texts : List (Option Filler)}
    (level : OwnText)
    → ((v : Tree) → SpellsTop T t v (out-Filled value).skeleton.items → Means tape v)
    → ((v : Tree) → Means tape v → nils ≡ nil_parts 0 v)
    → AreGaps T t (out-Filled value).skeleton.items 0 (out-Filled value).fillings.items gaps
    → AllFit tagged (within style) T (out-Filled value).fillings.items fillers → AreIn 0 nils gaps fillers all
    → AreParted all texts (held_of level) → TapeText style T t tape texts (text_of level)
    → LevelText tagged style T t value level
level_said {tagged = tagged} {style = style} {T = T} {t = t} {value = value} {gaps = gaps} {fillers = fillers}
    {all = all} {texts = texts} level tape nils are fit into parted text _ (is_filled {v = v} {fs = fs} spells a) =
    let means = tape v spells in
    let own = text v means in
    let n : NilsSaid tagged (within style) T t (out-Filled value).skeleton.items (nil_parts 0 v) fs texts
    (held_of level) =
    nils_said (subst (λ ns. AreIn 0 ns gaps fillers all) (nils v means) into) are fit a parted in
    let h = own_held style T t v own.0 level texts n.nils own.1 own.3 in (h.0, says_filled spells n.says h.1, h.2)

-- ---- where no nil is filled

nulls_said : {tagged : Bool} {style : Style} {T : Table} {t : TypeId} {b ns : List ℕ} {said : List Json}
    → NilsSay tagged style T t b ns no_filling said → (k : ℕ) → get_or said k json.null ≡ json.null
nulls_said no_nil zero = refl
nulls_said no_nil (suc k) = refl
nulls_said (says_null n) zero = refl
nulls_said (says_null n) (suc k) = nulls_said n k

abbrev nulls : List ℕ → List Json
nulls [] = []
nulls (n ∷ ns) = json.null ∷ nulls ns

say_nulls : {tagged : Bool} {style : Style} {T : Table} {t : TypeId} {b : List ℕ} (ns : List ℕ)
    → NilsSay tagged style T t b ns no_filling (nulls ns)
say_nulls [] = no_nil
say_nulls (n ∷ ns) = says_null (say_nulls ns)

pub unfilled_says : (tagged : Bool) (style : Style) (T : Table) (t : TypeId) (v : Tree) (j : Json)
    → SaysFilled tagged style T t (spelled.filled v no_filling) j → SaysValue style T t v j
unfilled_says tagged style T t v j (says_filled {said = said} spells n s) =
    value_as_much (λ k i. i ≡ get_or said k json.null) all_null style T t v j (λ k i p. p ∙ nulls_said n k) s

pub says_unfilled : (tagged : Bool) (style : Style) (T : Table) (t : TypeId) (v : Tree) (b : List ℕ) (j : Json)
    → SpellsTop T t v b → SaysValue style T t v j → SaysFilled tagged style T t (spelled.filled v no_filling) j
says_unfilled tagged style T t v b j spells s =
    let n = say_nulls {tagged = tagged} {style = within style} {T = T} {t = t} {b = b} (nil_parts 0 v) in
    says_filled spells n
    (value_as_much all_null (λ k i. i ≡ get_or (nulls (nil_parts 0 v)) k json.null) style T t v j
    (λ k i p. p ∙ sym (nulls_said n k)) s)

no_filling_of : {T : Table} {all : List Filling} {fs : Fillings} → all ≡ [] → AreFillings T all fs → fs ≡ no_filling
no_filling_of e no_fillings = refl
no_filling_of e (filling_then m a) = absurd (by e)
  where
    by : {X : Type 0} {x : X} {xs : List X} → x ∷ xs ≡ [] → ⊥
    by e = cc

-- a text of the value of the tape, where nothing is held
abbrev pub BareText : Style → Table → TypeId → Flat → List ℕ → Type 0
BareText style T t tape text = (v : Tree) → Means tape v
    → (j : Json) × SaysValue style T t v j × (text ≡ print (json_tokens j)) × (tokens text ≡ json_tokens j)

-- the text of the value of the tape as its level
pub bare_said : {style : Style} {T : Table} {t : TypeId} {value : Filled} {tape : Flat} (level : OwnText)
    → ((v : Tree) → SpellsTop T t v (out-Filled value).skeleton.items → Means tape v)
    → (out-Filled value).fillings.items ≡ [] → held_of level ≡ []
    → BareText style T t tape (text_of level)
    → (tagged : Bool) → LevelText tagged style T t value level
bare_said {style = style} {T = T} {t = t} {value = value} level tape none bare text tagged _
    (is_filled {v = v} {fs = fs} spells a) =
    let own = text v (tape v spells) in (
      own.0,
      subst (λ fs. SaysFilled tagged style T t (spelled.filled v fs) own.0) (sym (no_filling_of none a))
          (says_unfilled tagged style T t v (out-Filled value).skeleton.items own.0 spells own.1),
      bare_says bare own.3,
    )
