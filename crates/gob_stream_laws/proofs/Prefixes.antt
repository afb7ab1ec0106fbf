-- The first items of a stream, and what is taken of it.
use Rattle.std.proofs.Common.{◌≡◌, ℕ, ◌+◌, ◌<◌, List, [], ◌∷◌, ◌++◌, length, Option, Some, None, Ok, arith, refl, sym}
use Rattle.std.proofs.Common.{ap, ◌∙◌, subst, append_assoc, length-append}
use Rattle.gob_types.specs.Base.{base_table}
use Rattle.gob_types.specs.Defined.{types}
use Rattle.gob_value.specs.declared.value.Value.{Value}
use Rattle.gob_read.specs.Calls.Builders.{tree_building}
use Rattle.gob_read.specs.declared.tree_builder.TreeBuilder.{TreeBuilder}
use Rattle.gob_stream.specs.declared.item.Item as declared
use Rattle.gob_stream.specs.Machine.SessionState.{SessionState}
use Rattle.gob_stream.specs.Bounds.{Bounds, no_deeper}
use Rattle.gob_stream.specs.Item.{StreamItem, item_view, item_views}
use Rattle.gob_stream.specs.Reading.{SomeTaken}
use Rattle.gob_stream.specs.Calls.Reads.{ReadingGivesNext}
use Rattle.gob_stream.specs.Calls.Session.{HasRead, ReadItemAnswers}
use Rattle.gob_stream.specs.Stream.{no_more}
use Rattle.gob_stream.proofs.Reader.ReadStreamSteps.{views_more, views_meant}
use Rattle.gob_stream.specs.Item.{mean_none, mean_more}
use Rattle.gob_stream_laws.specs.Prefix.{AreBytesOf, TakesPrefix}

-- the session has given the items, and taken their bytes alone
pub record StandsBehind (s : SessionState TreeBuilder Value) (items : List StreamItem) (bytes : List ℕ) : Type 0 where
  pub read : HasRead tree_building s items bytes
  pub are : AreBytesOf (no_deeper 1000 s.limits) items bytes

-- a new session has, and nothing is taken
pub taken_none : (s : SessionState TreeBuilder Value) {before : List ℕ} {now : Option (List ℕ)} → now ≡ Some before
    → HasRead tree_building s [] []
    → SomeTaken before now (λ bytes. StandsBehind s [] bytes)
taken_none s {before = before} known read = record {
  bytes = [];
  taken = record { left = before; known = known; whole = refl };
  holds = record { read = read; are = record { table = base_table; stream = no_more } };
}

-- one more item is read, and its bytes are taken
pub taken_more : (s s' : SessionState TreeBuilder Value) (given : List (declared.Item Value)) {before : List ℕ}
    {mid : Option (List ℕ)} (now : Option (List ℕ))
    {o : Option (declared.Item Value)} (item : declared.Item Value) → o ≡ Some item
    → (p : SomeTaken before mid (λ bytes. StandsBehind s (item_views given) bytes))
    → ReadItemAnswers tree_building s s' (item_views given) p.bytes p.taken.left now (Ok o)
    → SomeTaken before now (λ bytes. StandsBehind s' (item_views (given ++ item ∷ [])) bytes)
taken_more s s' given now item e p h =
    let q : SomeTaken p.taken.left now (λ taken. ReadingGivesNext tree_building s' item (item_views given)
    (p.bytes ++ taken)) =
    subst (λ (o : Option (declared.Item Value)). ReadItemAnswers tree_building s s' (item_views given) p.bytes
    p.taken.left now (Ok o)) e h in
    let g = q.holds in
    let views : item_views given ++ g.item ∷ [] ≡ item_views (given ++ item ∷ []) =
    ap (λ l. item_views given ++ l) (sym (views_meant (mean_more g.meant mean_none))) ∙ sym (views_more given item) in
    record {
      bytes = p.bytes ++ q.bytes;
      taken = record {
        left = q.taken.left;
        known = q.taken.known;
        whole = p.taken.whole
            ∙ ap (λ l. p.bytes ++ l) q.taken.whole ∙ sym (append_assoc p.bytes q.bytes q.taken.left);
      };
      holds = subst (λ (items : List StreamItem). StandsBehind s' items (p.bytes ++ q.bytes)) views
          (record { read = g.after; are = record { table = types s'.types; stream = g.stream } });
    }

-- so many were asked for
pub prefix_read : {L : Bounds} {s : SessionState TreeBuilder Value} {count : ℕ} {before : List ℕ}
    {now : Option (List ℕ)}
    (items : List StreamItem) → no_deeper 1000 s.limits ≡ L
    → SomeTaken before now (λ bytes. StandsBehind s items bytes) → length items ≡ count
    → TakesPrefix L count before now items
prefix_read {count = count} {before = before} {now = now} items l p n = record {
  taken = record { bytes = p.bytes; taken = p.taken; holds = subst (λ L. AreBytesOf L items p.bytes) l p.holds.are };
  few = omega (arith, n);
  all = λ less. absurd (omega (arith, n));
}

-- or there are no more
pub all_read : {L : Bounds} {s : SessionState TreeBuilder Value} (s' : SessionState TreeBuilder Value) {count : ℕ}
    {before : List ℕ} {mid : Option (List ℕ)} (now : Option (List ℕ)) (items : List StreamItem)
    {o : Option (declared.Item Value)} → o ≡ None → no_deeper 1000 s.limits ≡ L
    → (p : SomeTaken before mid (λ bytes. StandsBehind s items bytes)) → length items < count
    → ReadItemAnswers tree_building s s' items p.bytes p.taken.left now (Ok o) → TakesPrefix L count before now items
all_read {s = s} s' {before = before} now items e l p n h =
    let q = subst (λ (o : Option (declared.Item Value)). ReadItemAnswers tree_building s s' items p.bytes p.taken.left
    now (Ok o)) e h in
    record {
      taken = record {
        bytes = p.bytes;
        taken = record { left = []; known = q.1; whole = p.taken.whole ∙ ap (λ l. p.bytes ++ l) q.0 };
        holds = subst (λ L. AreBytesOf L items p.bytes) l p.holds.are;
      };
      few = omega arith;
      all = λ less. q.1;
    }

-- one fewer is left
pub one_fewer : (given : List (declared.Item Value)) (item : declared.Item Value) (left next : ℕ) {count : ℕ}
    → next + 1 ≡ left → length (item_views given) + left ≡ count
    → length (item_views (given ++ item ∷ [])) + next ≡ count
one_fewer given item left next less e = omega (
  arith,
  less,
  e,
  ap length (views_more given item),
  length-append (item_views given) (item_view item ∷ []),
)
