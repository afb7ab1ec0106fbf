-- How a run that explains a stream ends.
use Rattle.std.proofs.Common.{◌≡◌, ℕ, ◌+◌, List, [], ◌++◌, Bool, true, false}
use Rattle.std.proofs.Common.{Option, Some, Result, Ok, Err, ◌∙◌, ap, sym, subst, refl}
use Rattle.std.proofs.Common.{append_assoc, append-nil, arith, length, length-append, IsTrue}
use Rattle.std.specs.Io.KnownBytes.{Appends, Keeps}
use Rattle.std.proofs.KnownBytes.{Appends-kept, Appends-nil, Appends-trans}
use Rattle.gob_types.specs.Base.{base_table}
use Rattle.gob_types.specs.Table.{Table}
use Rattle.gob_stream.specs.Bounds.{Bounds, within_trees}
use Rattle.gob_stream.specs.Reading.{Taken}
use Rattle.gob_stream.specs.declared.fault.Fault.{Fault}
use Rattle.gob_stream.specs.declared.fault.Fault.TheVariants as reading
use Rattle.gob_stream.specs.declared.fault.Refusal.{Refusal}
use Rattle.gob_filled.specs.Stream.{FilledItem, no_more}
use Rattle.gob_tool.specs.Ending.{EndsRun, ends_so, flush_fails}
use Rattle.gob_tool.specs.Fault.{reading_fault}
use Rattle.gob_tool.specs.Showing.{AppendsPrefix}
use Rattle.gob_tool.specs.declared.fault.ToolFault.{ToolFault}
use Rattle.gob_tool.specs.declared.fault.ToolFault.TheVariants as fault
use Rattle.gob_tool.proofs.EndLaws.{all_kept, prefix_kept}
use Rattle.gob_tool.specs.RunningGo.{EndsWholeGo, IsRefusedGo}
use Rattle.gob_why.specs.Explain.{ExplainAnswers, HasExplained, HasRefused, IsCutOff, IsRefusedText}
use Rattle.gob_why.specs.Explain.{in_items, in_refused, no_item}
use Rattle.gob_why.specs.Machine.Keeping.{BeginsKept, ExplainsAll, IsRefusedKept, ReadsBytes, TellsRefused}
use Rattle.gob_why.specs.declared.explained.Explained.{Explained}
use Rattle.gob_why.proofs.KeepingLaws.{begins_longer, kept_begins}
use Rattle.gob_why.proofs.RefusedLaws.{refused_longer}
use Rattle.gob_why.proofs.SendingLaws.{all_out, prefix_behind}

-- ---- what is known of the text
longer : {which : Option Explained} {L : Bounds} {bytes taken text : List ℕ} {now : Option (List ℕ)}
    → Taken bytes now taken → BeginsKept which L taken text → BeginsKept which L bytes text
longer {which = which} {L = L} {text = text} t b =
    subst (λ (b : List ℕ). BeginsKept which L b text) (sym t.whole) (begins_longer t.left b)

-- all the bytes begin with the items
all_begin : (which : Option Explained) (L : Bounds) (U : Table) (items : ℕ) (bytes : List ℕ) (now : Option (List ℕ))
    (item : List ℕ) (begin : ℕ) (text : List ℕ) (r : Result Bool Fault)
    → ReadsBytes which L U items bytes now item begin r text → BeginsKept which L bytes text
all_begin which L U items bytes now item begin text (Ok true) w = record {
  given = w.given;
  prefix = bytes;
  rest = [];
  table = U;
  whole = sym (append-nil bytes);
  stream = w.stream;
  explained = w.explained;
}
all_begin which L U items bytes now item begin text (Ok false) x = longer x.taken x.holds
all_begin which L U items bytes now item begin text (Err (reading.Refused R)) x =
    subst (λ (b : List ℕ). BeginsKept which L b text) (sym x.whole) (begins_longer x.rest (kept_begins x.kept))
all_begin which L U items bytes now item begin text (Err reading.Read) x = longer x.taken x.holds.begins
all_begin which L U items bytes now item begin text (Err reading.Memory) x = longer x.taken x.holds
all_begin which L U items bytes now item begin text (Err reading.Failed) x = absurd x

module _ (which : Explained) (L : Bounds) (U : Table) (items : ℕ) (bytes : List ℕ) (now : Option (List ℕ))
    (item : List ℕ) (begin : ℕ) (text : List ℕ) (old new : Option (List ℕ)) where
  -- a prefix of it went out
  pub read_cut : (r : Result Bool Fault) → ReadsBytes (Some which) L U items bytes now item begin r text
      → AppendsPrefix old new text → IsCutOff which L bytes old new
  read_cut r h p =
      let b = all_begin (Some which) L U items bytes now item begin text r h in
      in_items (record {
        items = b.given;
        begins = record { prefix = b.prefix; rest = b.rest; table = b.table; stream = b.stream; whole = b.whole };
        holds = record { bytes = b.prefix; table = b.table; text = text; explained = b.explained; holds = p };
      })

  -- all of it went out, of a whole stream
  pub read_whole : (whole : Bool) → IsTrue whole
      → ReadsBytes (Some which) L U items bytes now item begin (Ok whole) text
      → Appends old new text → EndsWholeGo L bytes now (HasExplained (Some which) L (Appends old new))
  read_whole false is w a = absurd (cc is)
  read_whole true is w a = record {
    items = w.given;
    table = U;
    stream = w.stream;
    end = w.end;
    holds = record { bytes = bytes; table = U; text = text; explained = w.explained; holds = a };
  }

  -- or up to what stopped it
  pub read_stopped : (e : Fault) → ReadsBytes (Some which) L U items bytes now item begin (Err e) text
      → Appends old new text → ExplainsAll which L U bytes item begin now old new (Err (reading_fault e))
  read_stopped (reading.Refused R) x a = (text, x, a)
  read_stopped reading.Read x a =
      let b = x.holds.begins in
      record {
        bytes = x.bytes;
        taken = x.taken;
        holds = record {
          items = b.given;
          given = x.holds.longest;
          holds = record { bytes = b.prefix; table = b.table; text = text; explained = b.explained; holds = a };
        };
      }
  read_stopped reading.Memory x a = read_cut (Err reading.Memory) x (all_out old new text a)
  read_stopped reading.Failed x a = absurd x

-- ---- behind a refusal
pub refused_whole : (which : Explained) (L : Bounds) (T : Table) (bytes item : List ℕ) (begin : ℕ) (text : List ℕ)
    (R : Refusal) (P : List ℕ → Type 0) (last : List ℕ) → IsRefusedKept (Some which) L T bytes item begin text R
    → IsRefusedText which T begin R item last → P (text ++ last) → IsRefusedGo L bytes R (HasRefused which L bytes R P)
refused_whole which L T bytes item begin text R P last x t p =
    let k = x.kept in
    let read : length x.read ≡ length k.prefix + length item = ap length k.whole ∙ length-append k.prefix item in
    let longer = refused_longer which T begin R item x.rest last (omega (arith, x.there, k.begins)) t in
    record {
      items = x.given;
      outcome = x.outcome;
      holds = record {
        before = k.prefix;
        rest = item ++ x.rest;
        whole = x.whole ∙ ap (λ (l : List ℕ). l ++ x.rest) k.whole ∙ append_assoc k.prefix item x.rest;
        behind = omega (arith, x.behind, k.begins);
        there = omega (arith, x.there, ap length x.whole, length-append x.read x.rest);
        table = x.table;
        text = text;
        explained = k.explained;
        types = T;
        types_are = x.types;
        last = last;
        refused = subst (λ (n : ℕ). IsRefusedText which T n R (item ++ x.rest) last) k.begins longer;
        holds = p;
      };
    }

pub refused_told : (which : Explained) (L M : Bounds) (T : Table) (bytes item : List ℕ) (begin : ℕ)
    (now old mid new : Option (List ℕ)) (R : Refusal) (f : ToolFault) (u : Unit {0}) → f ≡ fault.Refused R → L ≡ M
    → ExplainsAll which (within_trees L) T bytes item begin now old mid (Err f)
    → TellsRefused which T begin R item mid new (Ok u)
    → ExplainAnswers which (within_trees M) bytes now old new (Err (fault.Refused R))
refused_told which L M T bytes item begin now old mid new R f u is same x t =
    let y = subst (λ f. ExplainsAll which (within_trees L) T bytes item begin now old mid (Err f)) is x in
    subst (λ (L : Bounds). IsRefusedGo (within_trees L) bytes R
    (HasRefused which (within_trees L) bytes R (Appends old new))) same
    (refused_whole which (within_trees L) T bytes item begin y.0 R (Appends old new) t.0 y.1 t.1
    (Appends-trans old mid new y.0 t.0 y.2 t.2))

-- whose text didn't all go out
refused_cut_off : (which : Explained) (L M : Bounds) (T : Table) (bytes item : List ℕ) (begin : ℕ)
    (now old mid new : Option (List ℕ)) (R : Refusal) (f : ToolFault) → f ≡ fault.Refused R → L ≡ M
    → ExplainsAll which (within_trees L) T bytes item begin now old mid (Err f) → (text : List ℕ)
    → IsRefusedText which T begin R item text → AppendsPrefix mid new text
    → IsCutOff which (within_trees M) bytes old new
refused_cut_off which L M T bytes item begin now old mid new R f is same x text t p =
    let y = subst (λ f. ExplainsAll which (within_trees L) T bytes item begin now old mid (Err f)) is x in
    subst (λ (L : Bounds). IsCutOff which (within_trees L) bytes old new) same
    (in_refused (refused_whole which (within_trees L) T bytes item begin y.0 R (AppendsPrefix old new) text y.1 t
    (prefix_behind old mid new y.0 text y.2 p)))

pub refused_untold : (which : Explained) (L M : Bounds) (T : Table) (bytes item : List ℕ) (begin : ℕ)
    (now old mid new : Option (List ℕ)) (R : Refusal) (f e : ToolFault) → f ≡ fault.Refused R → L ≡ M
    → ExplainsAll which (within_trees L) T bytes item begin now old mid (Err f)
    → TellsRefused which T begin R item mid new (Err e)
    → ExplainAnswers which (within_trees M) bytes now old new (Err e)
refused_untold which L M T bytes item begin now old mid new R f fault.Write is same x t =
    refused_cut_off which L M T bytes item begin now old mid new R f is same x t.0 t.1 t.2
refused_untold which L M T bytes item begin now old mid new R f fault.Memory is same x t =
    refused_cut_off which L M T bytes item begin now old mid new R f is same x t.0 t.1 t.2
refused_untold which L M T bytes item begin now old mid new R f (fault.Refused Q) is same x t = absurd t
refused_untold which L M T bytes item begin now old mid new R f (fault.Wanted Q) is same x t = absurd t
refused_untold which L M T bytes item begin now old mid new R f fault.NoWantedType is same x t = absurd t
refused_untold which L M T bytes item begin now old mid new R f (fault.Clash path reason) is same x t = absurd t
refused_untold which L M T bytes item begin now old mid new R f (fault.LeftOut path number) is same x t = absurd t
refused_untold which L M T bytes item begin now old mid new R f fault.Read is same x t = absurd t

-- where no refusal is known
pub other_told : (which : Explained) (L M : Bounds) (T : Table) (bytes item : List ℕ) (begin : ℕ)
    (now old new : Option (List ℕ)) (f : ToolFault) → ((R : Refusal) → f ≡ fault.Refused R → ⊥) → L ≡ M
    → ExplainsAll which (within_trees L) T bytes item begin now old new (Err f)
    → ExplainAnswers which (within_trees M) bytes now old new (Err f)
other_told which L M T bytes item begin now old new (fault.Refused R) other same x = absurd (other R refl)
other_told which L M T bytes item begin now old new fault.Read other same x =
    subst (λ (L : Bounds). ExplainAnswers which (within_trees L) bytes now old new (Err fault.Read)) same x
other_told which L M T bytes item begin now old new fault.Write other same x =
    subst (λ (L : Bounds). ExplainAnswers which (within_trees L) bytes now old new (Err fault.Write)) same x
other_told which L M T bytes item begin now old new fault.Memory other same x =
    subst (λ (L : Bounds). ExplainAnswers which (within_trees L) bytes now old new (Err fault.Memory)) same x
other_told which L M T bytes item begin now old new (fault.Wanted R) other same x = absurd x
other_told which L M T bytes item begin now old new fault.NoWantedType other same x = absurd x
other_told which L M T bytes item begin now old new (fault.Clash path reason) other same x = absurd x
other_told which L M T bytes item begin now old new (fault.LeftOut path number) other same x = absurd x

pub whole_told : (which : Explained) (L M : Bounds) (T : Table) (bytes item : List ℕ) (begin : ℕ)
    (now old new : Option (List ℕ)) (u : Unit {0}) → L ≡ M
    → ExplainsAll which (within_trees L) T bytes item begin now old new (Ok u)
    → ExplainAnswers which (within_trees M) bytes now old new (Ok u)
whole_told which L M T bytes item begin now old new u same x =
    subst (λ (L : Bounds). ExplainAnswers which (within_trees L) bytes now old new (Ok u)) same x

-- ---- behind the flush
explained_as : {o : Option Explained} {L : Bounds} {P Q : List ℕ → Type 0} {items : List FilledItem}
    → HasExplained o L P items → ((text : List ℕ) → P text → Q text) → HasExplained o L Q items
explained_as h f = record {
  bytes = h.bytes;
  table = h.table;
  text = h.text;
  explained = h.explained;
  holds = f h.text h.holds;
}

refused_as : {which : Explained} {L : Bounds} {bytes : List ℕ} {R : Refusal} {P Q : List ℕ → Type 0}
    {items : List FilledItem} → HasRefused which L bytes R P items → ((text : List ℕ) → P text → Q text)
    → HasRefused which L bytes R Q items
refused_as h f = record {
  before = h.before;
  rest = h.rest;
  whole = h.whole;
  behind = h.behind;
  there = h.there;
  table = h.table;
  text = h.text;
  explained = h.explained;
  types = h.types;
  types_are = h.types_are;
  last = h.last;
  refused = h.refused;
  holds = f (h.text ++ h.last) h.holds;
}

cut_kept : (which : Explained) (L : Bounds) (bytes : List ℕ) (old mid new : Option (List ℕ)) → Keeps mid new
    → IsCutOff which L bytes old mid → IsCutOff which L bytes old new
cut_kept which L bytes old mid new k (in_items h) = in_items (record {
  items = h.items;
  begins = h.begins;
  holds = explained_as h.holds (λ text a. prefix_kept old mid new text a k);
})
cut_kept which L bytes old mid new k (in_refused {R = R} h) = in_refused {R = R} (record {
  items = h.items;
  outcome = h.outcome;
  holds = refused_as h.holds (λ text a. prefix_kept old mid new text a k);
})

explain_kept : (which : Explained) (L : Bounds) (bytes : List ℕ) (now old mid new : Option (List ℕ))
    (r : Result (Unit {0}) ToolFault) → Keeps mid new → ExplainAnswers which L bytes now old mid r
    → ExplainAnswers which L bytes now old new r
explain_kept which L bytes now old mid new (Ok u) k h = record {
  items = h.items;
  table = h.table;
  stream = h.stream;
  end = h.end;
  holds = explained_as h.holds (λ text a. Appends-kept old mid new text a k);
}
explain_kept which L bytes now old mid new (Err (fault.Refused R)) k h = record {
  items = h.items;
  outcome = h.outcome;
  holds = refused_as h.holds (λ text a. Appends-kept old mid new text a k);
}
explain_kept which L bytes now old mid new (Err fault.Read) k h = record {
  bytes = h.bytes;
  taken = h.taken;
  holds = record {
    items = h.holds.items;
    given = h.holds.given;
    holds = explained_as h.holds.holds (λ text a. Appends-kept old mid new text a k);
  };
}
explain_kept which L bytes now old mid new (Err fault.Write) k h = cut_kept which L bytes old mid new k h
explain_kept which L bytes now old mid new (Err fault.Memory) k h = cut_kept which L bytes old mid new k h
explain_kept which L bytes now old mid new (Err (fault.Wanted R)) k h = absurd h
explain_kept which L bytes now old mid new (Err fault.NoWantedType) k h = absurd h
explain_kept which L bytes now old mid new (Err (fault.Clash path reason)) k h = absurd h
explain_kept which L bytes now old mid new (Err (fault.LeftOut path number)) k h = absurd h

pub explain_ended : (which : Explained) (L : Bounds) (bytes : List ℕ) (now old mid new : Option (List ℕ))
    (answer result : Result (Unit {0}) ToolFault) → Keeps mid new → EndsRun answer result
    → ExplainAnswers which L bytes now old mid answer → ExplainAnswers which L bytes now old new result
explain_ended which L bytes now old mid new answer result k (ends_so e) h =
    subst (λ r. ExplainAnswers which L bytes now old new r) (sym e)
    (explain_kept which L bytes now old mid new answer k h)
explain_ended which L bytes now old mid new answer result k (flush_fails o e) h =
    subst (λ r. ExplainAnswers which L bytes now old new r) (sym e)
    (cut (subst (λ r. ExplainAnswers which L bytes now old mid r) o h))
  where
    cut : EndsWholeGo L bytes now (HasExplained (Some which) L (Appends old mid)) → IsCutOff which L bytes old new
    cut w = in_items (record {
      items = w.items;
      begins = record { prefix = bytes; rest = []; table = w.table; stream = w.stream; whole = sym (append-nil bytes) };
      holds = explained_as w.holds (λ text a. all_kept old mid new text a k);
    })

-- without memory for a session
pub none_explained : (which : Explained) (L : Bounds) (bytes : List ℕ) (out : Option (List ℕ))
    → IsCutOff which L bytes out out
none_explained which L bytes out = in_items (record {
  items = [];
  begins = record { prefix = []; rest = bytes; table = base_table; stream = no_more; whole = refl };
  holds = record {
    bytes = [];
    table = base_table;
    text = [];
    explained = no_item;
    holds = record { prefix = []; rest = []; whole = refl; out = Appends-nil out };
  };
})
