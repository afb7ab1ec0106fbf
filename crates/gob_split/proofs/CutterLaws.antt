-- How parts grow.
use Rattle.std.proofs.Common.{◌≡◌, ◌∙◌, ℕ, ◌<◌, List, [], ◌∷◌, ◌++◌, length, drop, take, arith, refl}
use Rattle.std.proofs.Common.{sym, ap, subst, append_assoc, Option, Some, None}
use Rattle.std.proofs.Common.{Result, Ok, Err, take-append-drop, nat_lt, true, false}
use Rattle.std.proofs.lemmas.Bool.Decides.{nat_tests}
use Rattle.std.specs.Result.{IsErr, IsErrAnd}
use Rattle.std.proofs.lemmas.List.{append-nil, drop_at, take_at}
use Rattle.gob_split.specs.Machine.Cutting.{CountsLast, CountsPart, HasNotBegun, HasNotTurned, HasTurned}
use Rattle.gob_tool.specs.declared.fault.ToolFault.{ToolFault}
use Rattle.gob_tool.specs.declared.fault.ToolFault.TheVariants as fault
use Rattle.gob_split.specs.Machine.Cutting.{BeginsPart, begun_some, HasPut, HasPutSome, IsCutting, not_begun}
use Rattle.gob_split.specs.Machine.Cutting.{PutsText, TurnAnswers}
use Rattle.gob_split.specs.Machine.Items.{text_in}
use Rattle.gob_split.specs.Parts.{SendsSome}
use Rattle.gob_split.specs.Split.{all_parts, cut_between, cut_within, definitions_of, HasRoom, IsCut, IsDone}
use Rattle.gob_split.specs.Split.{StreamPart, part_then, stays, turns, value_count, with_text}
use Rattle.gob_split.specs.Text.{Text, text_bytes}
use Rattle.gob_split.specs.declared.cutter.Cutter.{Cutter}
use Rattle.gob_split.specs.declared.cutter.Filling.{Filling}
use Rattle.gob_split.specs.declared.item_text.ItemText.{ItemText}
use Rattle.gob_split.specs.declared.part_size.PartSize.{PartSize}
use Rattle.gob_split.specs.declared.parts.NotWritten.{NotWritten}

pub text_whole : (x : ItemText) → text_bytes (text_in x) ≡ x.bytes.items
text_whole x = take-append-drop x.definitions x.bytes.items

-- ---- the definitions in force
pub definitions_more : (texts : List Text) (t : Text) → definitions_of (texts ++ t ∷ []) ≡ definitions_of texts
    ++ t.definitions
definitions_more [] t = append-nil t.definitions
definitions_more (u ∷ texts) t =
    ap (λ (l : List ℕ). u.definitions ++ l) (definitions_more texts t)
    ∙ sym (append_assoc u.definitions (definitions_of texts) t.definitions)

-- ---- how many values a text has
pub no_value : (value : List ℕ) → length value ≡ 0 → value_count value ≡ 0
no_value [] e = refl
no_value (b ∷ value) e = absurd (omega (arith, e))

pub one_value : (value : List ℕ) → 0 < length value → value_count value ≡ 1
one_value [] e = absurd (omega (arith, e))
one_value (b ∷ value) e = refl

-- so many of them, by whether there are some
pub some_values : (n values : ℕ) → n ≡ values → nat_lt 0 n ≡ true → 0 < values
some_values n values e is = grind (arith, nat_tests)

pub no_values : (n values : ℕ) → n ≡ values → nat_lt 0 n ≡ false → values ≡ 0
no_values n values e is = grind (arith, nat_tests)

-- ---- what was written
pub cut_nothing : (all : List (List ℕ)) (x : List ℕ) → IsCut (all ++ x ∷ []) all
cut_nothing all x = cut_between (x ∷ []) refl

-- ---- a part is there for the next item
module _ (how : PartSize) (defining : List ℕ) (full : List (List ℕ)) (before : List (List ℕ))
    (Are : List (List ℕ) → Type 0) where
  pub stays_so : (part : Option StreamPart) (f : Filling) → CountsLast (Some f) part
      → ((p : StreamPart) → CountsPart f p → HasRoom how p) → Are (before ++ all_parts full part)
      → HasTurned how defining full part (λ made. Are (before ++ made)) f
  stays_so None f k room out = absurd k
  stays_so (Some p) f k room out =
      record { full' = full; part = p; turns = stays (room p k); counts = k; out = out }

  pub turns_so : (part : Option StreamPart) (r : Result Filling NotWritten) → IsDone how part
      → BeginsPart defining (before ++ all_parts full part) Are r
      → TurnAnswers how defining full part (λ made. Are (before ++ made)) r
  turns_so part (Ok f) done b = record {
    full' = all_parts full part;
    part = record { bytes = defining; values = 0; ends = 0 };
    turns = turns done;
    counts = b.counts;
    out = subst Are (append_assoc before (all_parts full part) (defining ∷ [])) b.out;
  }
  turns_so part (Err e) done (not_begun out) = record {
    full' = all_parts full part;
    part = record { bytes = defining; values = 0; ends = 0 };
    turns = turns done;
    written = all_parts full part;
    cut = λ more. cut_nothing (all_parts full part) (defining ++ more);
    out = out;
  }
  turns_so part (Err e) done (begun_some prefix rest is out) = record {
    full' = all_parts full part;
    part = record { bytes = defining; values = 0; ends = 0 };
    turns = turns done;
    written = all_parts full part ++ prefix ∷ [];
    cut = λ more. cut_within (all_parts full part) prefix (rest ++ more)
        (ap (λ (l : List ℕ). all_parts full part ++ l ∷ []) (ap (λ (l : List ℕ). l ++ more) is
        ∙ append_assoc prefix rest more));
    out = subst Are (append_assoc before (all_parts full part) (prefix ∷ [])) out;
  }

pub done_so : (how : PartSize) (part : Option StreamPart) (f : Filling) → CountsLast (Some f) part
    → ((p : StreamPart) → CountsPart f p → IsDone how (Some p)) → IsDone how part
done_so how None f k done = absurd k
done_so how (Some p) f k done = done p k

pub none_done : (how : PartSize) (part : Option StreamPart) → CountsLast None part → IsDone how part
none_done how None k = tt
none_done how (Some p) k = absurd k

-- at the error that a `?` returns
pub begins_at : (bytes : List ℕ) (all : List (List ℕ)) (Are : List (List ℕ) → Type 0) (r : Result Filling NotWritten)
    → IsErr r → HasNotBegun bytes all Are → BeginsPart bytes all Are r
begins_at bytes all Are (Ok f) is h = cc
begins_at bytes all Are (Err e) is h = h

pub puts_at : (how : PartSize) (c : Cutter) (texts : List Text) (full : List (List ℕ)) (last : Option StreamPart)
    (t : Text)
    (Are : List (List ℕ) → Type 0) (r : Result (Unit {0}) ToolFault) → IsErrAnd r (λ e. e ≡ fault.Write)
    → HasPutSome how (texts ++ t ∷ []) Are → PutsText how c texts full last t Are r
puts_at how c texts full last t Are (Ok u) is h = absurd is
puts_at how c texts full last t Are (Err f) is h =
    subst (λ f. PutsText how c texts full last t Are (Err f)) (sym is) h

-- ---- parts behind others
pub sent_apart : (Are : List (List ℕ) → Type 0) (before full : List (List ℕ)) (last bytes : List ℕ)
    → SendsSome Are (before ++ full) last bytes → SendsSome (λ made. Are (before ++ made)) full last bytes
sent_apart Are before full last bytes s = record {
  prefix = s.prefix;
  rest = s.rest;
  whole = s.whole;
  out = subst Are (append_assoc before full ((last ++ s.prefix) ∷ [])) s.out;
}

pub front_same : (n : ℕ) (old more all : List ℕ) → all ≡ old ++ more → n ≡ length old → take n all ≡ old
front_same n old more all e l = ap (λ (z : List ℕ). take n z) e ∙ take_at old more n (sym l)

pub rest_same : (n : ℕ) (old more all : List ℕ) → all ≡ old ++ more → n ≡ length old → drop n all ≡ more
rest_same n old more all e l = ap (λ (z : List ℕ). drop n z) e ∙ drop_at old more n (sym l)

-- ---- a text is put
pub turned_as : (how : PartSize) (due : List ℕ) {size : PartSize} {defining : List ℕ} {full : List (List ℕ)}
    {last : Option StreamPart} {Are : List (List ℕ) → Type 0} {f : Filling} → size ≡ how → defining ≡ due
    → HasTurned size defining full last Are f → HasTurned how due full last Are f
turned_as how due {defining = defining} {full = full} {last = last} {Are = Are} {f = f} e d h =
    subst (λ (d : List ℕ). HasTurned how d full last Are f) d
    (subst (λ (s : PartSize). HasTurned s defining full last Are f) e h)

pub not_turned_as : (how : PartSize) (due : List ℕ) {size : PartSize} {defining : List ℕ} {full : List (List ℕ)}
    {last : Option StreamPart} {Are : List (List ℕ) → Type 0} → size ≡ how → defining ≡ due
    → HasNotTurned size defining full last Are → HasNotTurned how due full last Are
not_turned_as how due {defining = defining} {full = full} {last = last} {Are = Are} e d h =
    subst (λ (d : List ℕ). HasNotTurned how d full last Are) d
    (subst (λ (s : PartSize). HasNotTurned s defining full last Are) e h)

module _ (how : PartSize) {texts : List Text} {full : List (List ℕ)} {last : Option StreamPart}
    {Are : List (List ℕ) → Type 0}
  where
    pub put_so : {c c' : Cutter} {f f' : Filling} (t : Text) → IsCutting how c texts full last
        → (h : HasTurned how (definitions_of texts) full last Are f) → c'.size ≡ c.size
        → c'.defining.items ≡ c.defining.items ++ t.definitions → c'.last ≡ Some f'
        → CountsPart f' (with_text h.part t) → {New : List (List ℕ) → Type 0}
        → New (h.full' ++ (h.part.bytes ++ text_bytes t) ∷ []) → HasPut how c' (texts ++ t ∷ []) New
    put_so {c = c} {c' = c'} {f' = f'} t i h size defining is counts out = record {
      full = h.full';
      part = with_text h.part t;
      cutting = record {
        size = size ∙ i.size;
        split = part_then t i.split h.turns;
        defining = defining ∙ ap (λ (l : List ℕ). l ++ t.definitions) i.defining ∙ sym (definitions_more texts t);
        counts = subst (λ (o : Option Filling). CountsLast o (Some (with_text h.part t))) (sym is) counts;
      };
      out = out;
    }

    pub put_some : {c : Cutter} {f : Filling} (t : Text) → IsCutting how c texts full last
        → (h : HasTurned how (definitions_of texts) full last Are f) → {New : List (List ℕ) → Type 0}
        → SendsSome New h.full' h.part.bytes (text_bytes t) → HasPutSome how (texts ++ t ∷ []) New
    put_some t i h {New = New} s = record {
      full = h.full';
      part = with_text h.part t;
      split = part_then t i.split h.turns;
      written = h.full' ++ (h.part.bytes ++ s.prefix) ∷ [];
      cut = cut_within h.full' (h.part.bytes ++ s.prefix) s.rest
          (ap (λ (l : List ℕ). h.full' ++ l ∷ []) (ap (λ (l : List ℕ). h.part.bytes ++ l) s.whole
          ∙ sym (append_assoc h.part.bytes s.prefix s.rest)));
      out = s.out;
    }

    pub put_none : {c : Cutter} (t : Text) → IsCutting how c texts full last
        → (h : HasNotTurned how (definitions_of texts) full last Are) → HasPutSome how (texts ++ t ∷ []) Are
    put_none t i h = record {
      full = h.full';
      part = with_text h.part t;
      split = part_then t i.split h.turns;
      written = h.written;
      cut = h.cut (text_bytes t);
      out = h.out;
    }
