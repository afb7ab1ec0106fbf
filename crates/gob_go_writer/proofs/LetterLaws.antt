-- Segments under way, step by step.
use Rattle.std.proofs.Common.{◌≡◌, ℕ, List, [], ◌∷◌, ◌++◌, length, refl, sym, ap, subst, ◌∙◌, append_assoc}
use Rattle.std.proofs.lemmas.List.{append-nil}
use Rattle.gob_num.specs.Unsigned.{IsUnsigned}
use Rattle.gob_num.specs.Spelled.{Appends}
use Rattle.gob_filled.specs.Filled.{cut, AreSegments, last_segment, next_segment}
use Rattle.gob_go_writer.specs.Machine.Letters.{IsSegment, AreEnded, none_ended, one_ended, HasLetters, Takes}
use Rattle.gob_go_writer.specs.Machine.Letters.{TakesSpelled}
use Rattle.gob_go_writer.specs.Spelling.{SpellsName}
use Rattle.gob_go_writer.specs.declared.segments.Segments.{Segments}

-- segments that have ended, and others behind them
ended_before : {ended f ls g : List ℕ} → AreEnded ended f → AreSegments ls g → AreSegments (ended ++ ls) (f ++ g)
ended_before none_ended p = p
ended_before {ls = ls} {g = g} (one_ended {ls = before} {f = f} {b = b} s e n) p =
    rw (
      append_assoc before (s ++ (cut ∷ [])) ls,
      append_assoc s (cut ∷ []) ls,
      append_assoc f b g,
      n.whole,
      append_assoc n.count s g,
    ) (ended_before e (next_segment s n.are_bytes n.counts p))

-- ---- what is taken, one after another

pub takes_none : (s : Segments) → Takes s s []
takes_none s = record { behind = λ before h. subst (HasLetters s) (sym (append-nil before)) h }

pub takes_then : {a b c : Segments} {ls ms : List ℕ} → Takes a b ls → Takes b c ms → Takes a c (ls ++ ms)
takes_then {c = c} {ls = ls} {ms = ms} t u = record {
  behind = λ before h. subst (HasLetters c)
      (append_assoc before ls ms) (u.behind (before ++ ls) (t.behind before h));
}

pub takes_as : {a b : Segments} {ls ms : List ℕ} → ls ≡ ms → Takes a b ls → Takes a b ms
takes_as {a = a} {b = b} e t = subst (Takes a b) e t

-- nothing was appended
pub nothing_more : {old new : List ℕ} → new ≡ old → Appends (λ _. Unit {0}) old new
nothing_more {old = old} e = record { bytes = []; spelled = tt; appended = e ∙ sym (append-nil old) }

-- ---- bytes behind the last segment

pub puts : {s s' : Segments} {b : List ℕ} → s'.ended.items ≡ s.ended.items
    → s'.last.items ≡ s.last.items ++ b → Takes s s' b
puts {s = s} {b = b} e f = record {
  behind = λ before h. record {
    ended = h.ended;
    are_ended = subst (AreEnded h.ended) (sym e) h.are_ended;
    whole = ap (λ l. l ++ b) h.whole ∙ append_assoc h.ended s.last.items b ∙ ap (λ l. h.ended ++ l) (sym f);
  };
}

pub puts_spelled : {s s' : Segments} {Spells : List ℕ → Type 0} → s'.ended.items ≡ s.ended.items
    → Appends Spells s.last.items s'.last.items → TakesSpelled Spells s s'
puts_spelled e a = record { letters = a.bytes; spelled = a.spelled; takes = puts e a.appended }

pub puts_name : {s s' : Segments} {name m : List ℕ} → s'.ended.items ≡ s.ended.items
    → Appends (IsUnsigned (length name)) s.last.items m → s'.last.items ≡ m ++ name
    → TakesSpelled (SpellsName name) s s'
puts_name {s = s} {name = name} e a f = record {
  letters = a.bytes ++ name;
  spelled = record { count = a.bytes; counts = a.spelled; whole = refl };
  takes = puts e (f ∙ ap (λ l. l ++ name) a.appended ∙ append_assoc s.last.items a.bytes name);
}

-- ---- the end of a segment

pub cuts : {s s' : Segments} → Appends (IsSegment s.last.items) s.ended.items s'.ended.items
    → s'.last.items ≡ [] → Takes s s' (cut ∷ [])
cuts {s = s} a f = record {
  behind = λ before h.
      let ended = h.ended ++ (s.last.items ++ (cut ∷ [])) in
      record {
        ended = ended;
        are_ended = subst (AreEnded ended) (sym a.appended) (one_ended s.last.items h.are_ended a.spelled);
        whole = ap (λ l. l ++ (cut ∷ [])) h.whole ∙ append_assoc h.ended s.last.items (cut ∷ [])
            ∙ sym (append-nil ended) ∙ ap (λ l. ended ++ l) (sym f);
      };
}

-- ---- all of them

pub all_appended : {s : Segments} {new ls : List ℕ} (old : List ℕ)
    → Appends (IsSegment s.last.items) (old ++ s.ended.items) new → HasLetters s ls
    → Appends (AreSegments ls) old new
all_appended {s = s} {ls = ls} old a h =
    let last = a.spelled in
    let whole : AreSegments (h.ended ++ s.last.items) (s.ended.items ++ (last.count ++ s.last.items)) =
    ended_before h.are_ended (last_segment s.last.items last.are_bytes last.counts) in
    record {
      bytes = s.ended.items ++ a.bytes;
      spelled = subst (λ b. AreSegments ls (s.ended.items ++ b)) (sym last.whole)
          (subst (λ l. AreSegments l (s.ended.items ++ (last.count ++ s.last.items))) (sym h.whole) whole);
      appended = a.appended ∙ append_assoc old s.ended.items a.bytes;
    }
