-- Reading all items of a stream.
use Rattle.std.proofs.Common.{◌≡◌, ℕ, ◌-◌, ◌<◌, ◌≤◌, List, [], ◌∷◌, ◌++◌, length, take, Option, Some, None, Ok, Err}
use Rattle.std.proofs.Common.{arith, refl, sym, ap, ◌∙◌, subst, append_assoc, length-append}
use Rattle.std.proofs.lemmas.List.{append-nil, take-append-le}
use Rattle.gob_types.specs.Table.{Table}
use Rattle.gob_types.specs.Base.{base_table}
use Rattle.gob_types.specs.Defined.{types}
use Rattle.gob_value.specs.Tree.{Tree}
use Rattle.gob_value.specs.View.{view}
use Rattle.gob_value.specs.declared.value.Value.{Value}
use Rattle.gob_read.specs.Calls.Builders.{tree_building}
use Rattle.gob_read.specs.declared.tree_builder.TreeBuilder.{TreeBuilder}
use Rattle.gob_stream.specs.declared.fault.Refusal.{Refusal}
use Rattle.gob_stream.specs.declared.fault.Fault.{Fault}
use Rattle.gob_stream.specs.declared.fault.Fault.TheVariants as fault
use Rattle.gob_stream.specs.declared.item.Item as declared
use Rattle.gob_stream.specs.Machine.SessionState.{SessionState}
use Rattle.gob_stream.specs.Bounds.{Bounds, no_deeper}
use Rattle.gob_stream.specs.Devices.{counts_up}
use Rattle.gob_stream.specs.Item.{StreamItem, ItemMeans, means_definition, means_value, ItemsMean, mean_none, mean_more}
use Rattle.gob_stream.specs.Item.{item_view, item_views}
use Rattle.gob_stream.specs.Outcome.{LongestStream, LongestButLast, Outcome, EndsSo, at_the_end, the_end, refused}
use Rattle.gob_stream.specs.Stream.{Stream, no_more}
use Rattle.gob_stream.specs.Machine.HasRead.{HasRead}
use Rattle.gob_stream.specs.Reading.{SomeTaken, Given, ShowsRefusal, RefusesNextItem, shown, ended, StopsNext}
use Rattle.gob_stream.specs.Reading.{ReadsStream}
use Rattle.gob_stream.specs.Calls.Reads.{ReadingGivesNext, ReadItemAnswers, ReadItemTakes}
use Rattle.gob_stream.proofs.Stream.StayLaws.{shown_there, shown_refusal_stays}
use Rattle.gob_stream.proofs.Stream.StreamLaws.{NoNext, counted_some, gives_items, but_none, before_last}
use Rattle.gob_stream.proofs.Reader.UnderWayLaws.{after_gives}

-- ---- items that were given
pub given_none : {A : Type 0} {old : List A} {P : List A → Type 0} → P [] → Given old old P
given_none {old = old} p = record { given = []; appended = sym (append-nil old); holds = p }

pub given_as : {A : Type 0} {old new : List A} {P Q : List A → Type 0} → ((xs : List A) → P xs → Q xs) → Given old new P
    → Given old new Q
given_as f p = record { given = p.given; appended = p.appended; holds = f p.given p.holds }

pub given_more : {A : Type 0} {old new new' : List A} {P Q : List A → Type 0} (x : A) → new' ≡ new ++ x ∷ []
    → ((xs : List A) → P xs → Q (xs ++ x ∷ [])) → Given old new P → Given old new' Q
given_more {old = old} x e f p =
    record {
      given = p.given ++ x ∷ [];
      appended = e ∙ ap (λ l. l ++ x ∷ []) p.appended
          ∙ append_assoc old p.given (x ∷ []);
      holds = f p.given p.holds;
    }

pub given_still : {A : Type 0} {old new new' : List A} {P : List A → Type 0} → new' ≡ new → Given old new P
    → Given old new' P
given_still e p = record { given = p.given; appended = e ∙ p.appended; holds = p.holds }

-- ---- values of trees
pub views_more : (xs : List (declared.Item Value)) (x : declared.Item Value) → item_views (xs ++ x ∷ []) ≡ item_views xs
    ++ item_view x ∷ []
views_more [] x = refl
views_more (y ∷ xs) x = ap (λ l. item_view y ∷ l) (views_more xs x)

-- what stands for a tree has it as its view
abbrev pub IsSeen : Value → Tree → Type 0
IsSeen value v = view value ≡ v

view_meant : {given : declared.Item Value} {i : StreamItem} → ItemMeans IsSeen given i → item_view given ≡ i
view_meant means_definition = refl
view_meant (means_value {v = v} e) = cc

pub views_meant : {given : List (declared.Item Value)} {items : List StreamItem} → ItemsMean IsSeen given items
    → item_views given ≡ items
views_meant mean_none = refl
views_meant (mean_more {all = all} m more) = let one = view_meant m in let rest = views_meant more in cc

-- behind others
pub views_behind : (before : List (declared.Item Value)) {given : List (declared.Item Value)} {items : List StreamItem}
    → ItemsMean IsSeen given items → item_views (before ++ given) ≡ item_views before ++ items
views_behind [] m = views_meant m
views_behind (x ∷ before) m = ap (λ l. item_view x ∷ l) (views_behind before m)

-- ---- bytes that were taken before, and some more
taken_again : {bytes : List ℕ} {mid now : Option (List ℕ)} {P Q R : List ℕ → Type 0} (p : SomeTaken bytes mid P)
    → ((more : List ℕ) → Q more → R (p.bytes ++ more)) → SomeTaken p.taken.left now Q → SomeTaken bytes now R
taken_again p f q = record {
  bytes = p.bytes ++ q.bytes;
  taken = record {
    left = q.taken.left;
    known = q.taken.known;
    whole = p.taken.whole
        ∙ ap (λ l. p.bytes ++ l) q.taken.whole ∙ sym (append_assoc p.bytes q.bytes q.taken.left);
  };
  holds = f q.bytes q.holds;
}

-- ---- where a stream stops
-- no bytes begin an item
none_behind : {L : Bounds} {T : Table} {offset : ℕ} → NoNext base_table L T offset []
none_behind = λ i U b y q e. let some = counted_some q in omega (arith, ap length e, length-append b y)

-- nothing was taken
pub took_nothing : (L : Bounds) {bytes : List ℕ} {now : Option (List ℕ)} → now ≡ Some bytes
    → SomeTaken bytes now (λ taken. LongestButLast base_table L taken [])
took_nothing L {bytes = bytes} known = record {
  bytes = [];
  taken = record {
    left = bytes;
    known = known;
    whole =
        refl;
  };
  holds = but_none (gives_items [] no_more none_behind);
}

-- a refusal that some of the bytes show is that of all of them
shown_of_all : {L : Bounds} {bytes prefix : List ℕ} (left : List ℕ) {items : List StreamItem} {R : Refusal}
    → bytes ≡ prefix ++ left → ShowsRefusal L prefix items R → Outcome base_table L bytes items (refused R)
shown_of_all {L = L} {bytes = bytes} {prefix = prefix} left {items = items} {R = R} e h =
    (shown_refusal_stays L prefix bytes items R h (ap (λ b. take R.seen b) e
    ∙ take-append-le R.seen prefix left (shown_there h))).1.outcome

refused_of_all : {P : List ℕ → Type 0} {L : Bounds} {bytes : List ℕ} {items : List StreamItem}
    {mid now : Option (List ℕ)} {R : Refusal} (p : SomeTaken bytes mid P) → RefusesNextItem L items p.bytes p.taken.left
    now R
    → Outcome base_table L bytes items (refused R)
refused_of_all {L = L} {items = items} {R = R} p (shown q) =
    let t = taken_again {R = λ x. ShowsRefusal L x items R} p (λ more h. h.0) q in
    shown_of_all t.taken.left t.taken.whole t.holds
refused_of_all {L = L} {items = items} {R = R} p (ended n o e) = subst (λ b. Outcome base_table L b items (refused R))
    (sym p.taken.whole) o

pub stream_stops : {P : List ℕ → Type 0} {L : Bounds} (M : Bounds) {bytes : List ℕ} (items : List StreamItem)
    {mid : Option (List ℕ)} (now : Option (List ℕ)) (e : Fault) → M ≡ L → (p : SomeTaken bytes mid P)
    → StopsNext M items p.bytes p.taken.left now e
    → ReadsStream L bytes now items (Err e)
stream_stops M {bytes = bytes} items now (fault.Refused R) l p h =
    subst (λ L. Outcome base_table L bytes items (refused R)) l (refused_of_all p h)
stream_stops M {bytes = bytes} items now fault.Read l p h =
    subst (λ L. SomeTaken bytes now (λ taken. LongestStream base_table L taken items)) l (taken_again p (λ more g. g) h)
stream_stops M {bytes = bytes} items now fault.Memory l p h =
    subst (λ L. SomeTaken bytes now (λ taken. LongestButLast base_table L taken items)) l
    (taken_again p (λ more g. g) h)
stream_stops M items now fault.Failed l p h = absurd h

-- ---- one more item, or none
pub stands_next : (s s' : SessionState TreeBuilder Value) (given : List (declared.Item Value)) {bytes : List ℕ}
    {mid : Option (List ℕ)} (now : Option (List ℕ)) {o : Option (declared.Item Value)} (item : declared.Item Value)
    → o ≡ Some item
    → (p : SomeTaken bytes mid (λ taken. HasRead tree_building s (item_views given) taken))
    → ReadItemAnswers tree_building s s' (item_views given) p.bytes p.taken.left now (Ok o)
    → SomeTaken bytes now (λ taken. HasRead tree_building s' (item_views (given ++ item ∷ [])) taken)
stands_next s s' given now item e p h =
    let h' : SomeTaken p.taken.left now (λ taken. ReadingGivesNext tree_building s' item
    (item_views given) (p.bytes ++ taken)) =
    subst (λ (o : Option (declared.Item Value)). ReadItemAnswers tree_building s s' (item_views given) p.bytes
    p.taken.left now (Ok o)) e h in
    taken_again p
    (λ more g. subst (λ items. HasRead tree_building s' items (p.bytes ++ more))
    (ap (λ i. item_views given ++ i ∷ []) (sym (view_meant g.meant)) ∙ sym (views_more given item)) g.after) h'

-- an item for which no memory was had
pub item_lost : {L : Bounds} (s s' : SessionState TreeBuilder Value) (given : List (declared.Item Value))
    {bytes : List ℕ} {mid : Option (List ℕ)} (now : Option (List ℕ)) {o : Option (declared.Item Value)}
    (item : declared.Item Value) → o ≡ Some item
    → no_deeper 1000 s.limits ≡ L → s'.limits ≡ s.limits
    → (p : SomeTaken bytes mid (λ taken. HasRead tree_building s (item_views given) taken))
    → ReadItemAnswers tree_building s s' (item_views given) p.bytes p.taken.left now (Ok o)
    → SomeTaken bytes now (λ taken. LongestButLast base_table L taken (item_views given))
item_lost {L = L} s s' given {bytes = bytes} now item e l same p h =
    let M = no_deeper 1000 s.limits in
    let items = item_views given in
    let h' : SomeTaken p.taken.left now (λ taken. ReadingGivesNext tree_building s' item items (p.bytes
    ++ taken)) =
    subst (λ (o : Option (declared.Item Value)). ReadItemAnswers tree_building s s' items p.bytes p.taken.left
    now (Ok o)) e h in
    let a = p.holds in
    subst (λ L. SomeTaken bytes now (λ taken. LongestButLast base_table L taken items)) l
    (taken_again {R = λ x. LongestButLast base_table M x items} p
    (λ more g. before_last g.item
    (record {
      prefix = a.prefix;
      rest = a.under_way ++ more;
      table = types s.types;
      stream = a.stream;
      whole =
          ap (λ b. b ++ more) a.whole ∙ append_assoc a.prefix a.under_way more;
    })
    (subst (λ L. LongestStream base_table (no_deeper 1000 L) (p.bytes ++ more) (items ++ g.item ∷ [])) same
    (after_gives g.after))) h')

pub record IsWhole (L : Bounds) (bytes : List ℕ) (items : List StreamItem) : Type 0 where
  pub table : Table
  pub stream : Stream base_table L items bytes table

whole_of : {L : Bounds} {bytes : List ℕ} {items : List StreamItem} → EndsSo base_table L bytes items the_end
    → IsWhole L bytes items
whole_of (at_the_end {T = T} p) = record { table = T; stream = p }

pub stream_ends : {L : Bounds} (s s' : SessionState TreeBuilder Value) {items : List StreamItem} {bytes : List ℕ}
    {mid : Option (List ℕ)} (now : Option (List ℕ)) {o : Option (declared.Item Value)} (u : Unit {0})
    → o ≡ None → no_deeper 1000 s.limits ≡ L
    → (p : SomeTaken bytes mid (λ taken. HasRead tree_building s items taken))
    → ReadItemAnswers tree_building s s' items p.bytes p.taken.left now (Ok o)
    → ReadsStream L bytes now items (Ok u)
stream_ends {L = L} s s' {items = items} {bytes = bytes} now u e l p h =
    let h' = subst (λ (o : Option (declared.Item Value)). ReadItemAnswers tree_building s s' items p.bytes
    p.taken.left now (Ok o)) e h in
    let all : p.bytes ≡ bytes = sym (p.taken.whole ∙ ap (λ x. p.bytes ++ x) h'.0 ∙ append-nil p.bytes) in
    let t = whole_of (subst (λ L. Outcome base_table L bytes items the_end) l
    (subst (λ b. Outcome base_table (no_deeper 1000 s.limits) b items the_end) all h'.2)).ends in
    (t.table, t.stream, h'.1)

pub item_taken : (s s' : SessionState TreeBuilder Value) (t t' : ℕ) {o : Option (declared.Item Value)}
    {item : declared.Item Value} → o ≡ Some item → ReadItemTakes s s' t t' (Ok o)
    → (t' ≡ counts_up t (s'.taken - s.taken)) × (s.taken < s'.taken) × (s'.taken ≤ s.limits.stream)
item_taken s s' t t' e h = subst (λ (o : Option (declared.Item Value)). ReadItemTakes s s' t t' (Ok o)) e h
