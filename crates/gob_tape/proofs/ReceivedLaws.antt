-- How a builder of tapes goes on standing for what it was told.
use Rattle.std.proofs.Common.{◌≡◌, ℕ, ◌+◌, ◌^◌, ◌<◌, List, [], ◌∷◌, ◌++◌, length, get_or, reverse, Option, Some, None}
use Rattle.std.proofs.Common.{arith, refl, sym, ◌∙◌, subst}
use Rattle.std.specs.Prelude.{slice_get}
use Rattle.std.proofs.lemmas.Option.{slice_get-get_or}
use Rattle.gob_types.specs.declared.basic.Basic.{Basic}
use Rattle.gob_value.specs.Tree.{Tree}
use Rattle.gob_read.specs.declared.event.RawKind.{RawKind}
use Rattle.gob_read.specs.declared.event.GroupKind.{GroupKind}
use Rattle.gob_read.specs.Event.{Event, number, raw_start, raw_more, enter, field, leave, HasEvents}
use Rattle.gob_read.specs.Weight.{parts_told, raw_told}
use Rattle.gob_read.specs.Machine.Built.{OpenPart, Work, no_work, told, all_told}
use Rattle.gob_read.proofs.PublicLaws.{all_told-append, tells_built, parts_told-append, raw_told-append}
use Rattle.gob_tape.specs.declared.node.Content.TheVariants as content
use Rattle.gob_tape.specs.declared.node.Node.{Node}
use Rattle.gob_tape.specs.declared.node.Begun.{Begun}
use Rattle.gob_tape.specs.Meaning.{MeansAt}
use Rattle.gob_tape.specs.Machine.Coming.{at_top, MayEnd, of_raw, of_list, of_map, of_struct, MayCome, a_number}
use Rattle.gob_tape.specs.Machine.Coming.{a_raw_part, raw_bytes, a_group, a_field, an_end}
use Rattle.gob_tape.specs.Machine.Opened.{AreOpen, no_open, in_part}
use Rattle.gob_tape.specs.Machine.State.{State, added_node, opened_node, with_begun, with_pool, counted, ended_in}
use Rattle.gob_tape.specs.Machine.Received.{next_field, ShowsTree, under_way, whole, AreTaped}
use Rattle.gob_tape.proofs.ComingLaws.{prefix_comes, tells_come}
use Rattle.gob_tape.proofs.OpenedLaws.{shows_added, shows_entered, shows_started, shows_more, shows_field, shows_left}
use Rattle.gob_tape.proofs.OpenedLaws.{node_stands}

-- one more event, where the state goes along with what it makes
told_more : {old new : State} {before after : ℕ} {us : List Event} (t : Event)
    → ((w : Work) → MayCome w.parts w.whole t → ShowsTree old w.parts w.whole
    → ShowsTree new (told w t).parts (told w t).whole)
    → after ≡ before + (parts_told (t ∷ []) + raw_told (t ∷ [])) → AreTaped old before us
    → AreTaped new after (us ++ t ∷ [])
told_more {new = new} {us = us} t step n a = record {
  shown = λ m.
      let x = prefix_comes us t m in
      subst (λ w. ShowsTree new w.parts w.whole) (sym (all_told-append no_work us (t ∷ [])))
      (step (all_told no_work us) x.1 (a.shown x.0));
  count = omega (arith, n, a.count, parts_told-append us (t ∷ []), raw_told-append us (t ∷ []));
}

pub number_told : {old new : State} {before after : ℕ} {us : List Event} (k : Basic) (a b : ℕ)
    → new ≡ added_node old (content.Number k a b) → length new.nodes < 2 ^ 63 → after ≡ before + 1
    → AreTaped old before us → AreTaped new after (us ++ number k a b ∷ [])
number_told {old = old} {new = new} k a b e l n = told_more (number k a b) step (omega arith)
  where
    step : (w : Work) → MayCome w.parts w.whole (number k a b) → ShowsTree old w.parts w.whole
        → ShowsTree new (told w (number k a b)).parts (told w (number k a b)).whole
    step w (a_number h m) s = rw e (shows_added old k a b s h m (subst (λ new. length new.nodes < 2 ^ 63) e l))

pub start_told : {old new : State} {before after start : ℕ} {us : List Event} (k : RawKind) → start ≡ length old.pool
    → new ≡ opened_node old (content.Raw k start 0) → after ≡ before + 1
    → AreTaped old before us → AreTaped new after (us ++ raw_start k ∷ [])
start_told {old = old} {new = new} k p e n = told_more (raw_start k) step (omega arith)
  where
    step : (w : Work) → MayCome w.parts w.whole (raw_start k) → ShowsTree old w.parts w.whole
        → ShowsTree new (told w (raw_start k)).parts (told w (raw_start k)).whole
    step w (a_raw_part h) s = rw (e, p) (shows_started old k s h)

pub more_told : {old new : State} {before after : ℕ} {us : List Event} (c : List ℕ)
    → new ≡ with_pool old (old.pool ++ c) → after ≡ before + length c → AreTaped old before us
    → AreTaped new after (us ++ raw_more c ∷ [])
more_told {old = old} {new = new} c e n = told_more (raw_more c) (λ w m s. by w.parts w.whole m s) (omega arith)
  where
    by : (ps : List OpenPart) (v : Option Tree) → MayCome ps v (raw_more c) → ShowsTree old ps v
        → ShowsTree new (told (record { parts = ps; whole = v }) (raw_more c)).parts v
    by ps v raw_bytes s = rw e (shows_more old c s)

pub group_told : {old new : State} {before after : ℕ} {us : List Event} (k : GroupKind)
    → new ≡ opened_node old (content.Group k 0 0) → after ≡ before + 1
    → AreTaped old before us → AreTaped new after (us ++ enter k ∷ [])
group_told {old = old} {new = new} k e n = told_more (enter k) step (omega arith)
  where
    step : (w : Work) → MayCome w.parts w.whole (enter k) → ShowsTree old w.parts w.whole
        → ShowsTree new (told w (enter k)).parts (told w (enter k)).whole
    step w (a_group h) s = rw e (shows_entered old k s h)

pub field_told : {old : State} {before : ℕ} {us : List Event} (f : ℕ) → AreTaped old before us
    → AreTaped (record old { field = Some f }) before (us ++ field f ∷ [])
field_told {old = old} f = told_more (field f) (λ w m s. by w.parts w.whole m s) (omega arith)
  where
    by : (ps : List OpenPart) (v : Option Tree) → MayCome ps v (field f) → ShowsTree old ps v
        → ShowsTree (record old { field = Some f }) (told (record { parts = ps; whole = v }) (field f)).parts v
    by ps v a_field s = shows_field old f s

no_number : {p : OpenPart} (ps : List OpenPart) → MayEnd p → next_field (p ∷ ps) ≡ None
no_number ps of_raw = refl
no_number ps of_list = refl
no_number ps of_map = refl
no_number ps of_struct = refl

shown_field : {s : State} {p : OpenPart} {ps : List OpenPart} {v : Option Tree} → ShowsTree s (p ∷ ps) v → MayEnd p
    → s.field ≡ None
shown_field {ps = ps} (under_way a e d) h = e ∙ no_number ps h

-- where a part ends, there is one, with its node
some_open : {s : State} {p : OpenPart} {ps : List OpenPart} {v : Option Tree} → ShowsTree s (p ∷ ps) v
    → length s.begun ≡ 0 → ⊥
some_open (under_way a e d) n = none a n
  where
    none : {nodes : List Node} {pool : List ℕ} {j : ℕ} {os : List Begun} {p : OpenPart} {ps : List OpenPart}
        → AreOpen nodes pool j os (p ∷ ps) → length os ≡ 0 → ⊥
    none (in_part a g q) n = absurd (omega arith)

place_stands : {s : State} {o : Begun} {os : List Begun} {p : OpenPart} {ps : List OpenPart} {v : Option Tree}
    → s.begun ≡ o ∷ os → ShowsTree s (p ∷ ps) v → o.node < length s.nodes
place_stands {s = s} {p = p} {ps = ps} b (under_way a e d) =
    node_stands (subst (λ os. AreOpen s.nodes s.pool (length s.nodes) os (p ∷ ps)) b a)

-- the innermost part has ended: its node says so, and it is one more part of the next
pub leave_told : {old new : State} {before after : ℕ} {us : List Event} (o : Begun) (os : List Begun)
    → old.begun ≡ o ∷ os → length old.nodes < 2 ^ 63
    → ((x : Node) → slice_get old.nodes o.node ≡ Some x → new ≡ with_begun (ended_in old o x) (counted os))
    → after ≡ before → AreTaped old before us → AreTaped new after (us ++ leave ∷ [])
leave_told {old = old} {new = new} o os b l e n = told_more leave (λ w m s. by w.parts w.whole m s) (omega arith)
  where
    by : (ps : List OpenPart) (v : Option Tree) → MayCome ps v leave → ShowsTree old ps v
        → ShowsTree new (told (record { parts = ps; whole = v }) leave).parts (told (record { parts = ps; whole = v })
        leave).whole
    by [] v h s = elim h [ ]
    by (p ∷ ps) v (an_end h) s =
        let d : Node = record {
          field = None;
          content =
              content.Raw Rattle.gob_read.specs.declared.event.RawKind.TheVariants.Bytes 0 0;
        } in
        let x = get_or old.nodes o.node d in
        let there = slice_get-get_or old.nodes o.node d (place_stands b s) in
        rw (e x there, shown_field s h) (shows_left old x b s h there l)

pub none_left : {old new : State} {before : ℕ} {us : List Event} → length old.begun ≡ 0 → new ≡ old
    → AreTaped old before us → AreTaped new before (us ++ leave ∷ [])
none_left {old = old} {new = new} n e = told_more leave (λ w m s. by w.parts w.whole m s) (omega arith)
  where
    by : (ps : List OpenPart) (v : Option Tree) → MayCome ps v leave → ShowsTree old ps v
        → ShowsTree new (told (record { parts = ps; whole = v }) leave).parts (told (record { parts = ps; whole = v })
        leave).whole
    by [] v h s = elim h [ ]
    by (p ∷ ps) v (an_end h) s = absurd (some_open s n)

-- nothing was told
pub fresh_stands : {nodes : List Node} {pool : List ℕ} {begun : List Begun} → nodes ≡ [] → pool ≡ [] → begun ≡ []
    → AreTaped (record { nodes = nodes; pool = pool; begun = reverse begun; field = None; deepest = 0 }) 0 []
fresh_stands e f g = rw (e, f, g) (record { shown = λ m. under_way no_open refl refl; count = refl })

-- the whole value was told
pub record IsWhole (s : State) (v : Tree) : Type 0 where
  pub parts : MeansAt s.nodes s.pool 0 (length s.nodes) None v
  pub deep : s.deepest ≡ Rattle.gob_value.specs.Tree.depth v

pub whole_told : {s : State} {held : ℕ} {us : List Event} {v : Tree} → AreTaped s held us → HasEvents v us → IsWhole s v
whole_told {s = s} {v = v} a t = by (subst (λ w. ShowsTree s w.parts w.whole) (tells_built t no_work)
    (a.shown (tells_come t at_top)))
  where
    by : ShowsTree s [] (Some v) → IsWhole s v
    by (whole m b d) = record { parts = m; deep = d }
