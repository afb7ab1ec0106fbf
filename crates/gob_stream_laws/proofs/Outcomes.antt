-- What the laws of streams give for the functions here.
use Rattle.std.proofs.Common.{◌≡◌, ℕ, ◌+◌, ◌<◌, ◌≤◌, List, [], ◌∷◌, ◌++◌, length, get_or, take, drop, Some, Result, Ok}
use Rattle.std.proofs.Common.{Err, arith, refl, sym, ap, ◌∙◌, subst, append_assoc, append-nil, take_all}
use Rattle.std.specs.Global.{Vec}
use Rattle.std.specs.Result.{IsErrAnd}
use Rattle.std.proofs.lemmas.List.{take_more, take-append-le, take-append-drop}
use Rattle.gob_types.specs.Base.{base_table}
use Rattle.gob_value.specs.declared.value.Value.{Value}
use Rattle.gob_read.specs.Calls.Builders.{tree_building}
use Rattle.gob_read.specs.declared.tree_builder.TreeBuilder.{TreeBuilder}
use Rattle.gob_stream.specs.declared.fault.Refusal.{Refusal}
use Rattle.gob_stream.specs.declared.fault.Fault.{Fault}
use Rattle.gob_stream.specs.declared.fault.Fault.TheVariants as fault
use Rattle.gob_stream.specs.declared.item.Item as declared
use Rattle.gob_stream.specs.Machine.SessionState.{SessionState}
use Rattle.gob_stream.specs.Bounds.{Bounds, no_deeper}
use Rattle.gob_stream.specs.Item.{StreamItem, item_views}
use Rattle.gob_stream.specs.Laws.{WrittenWithin, ReadsThese, StreamsStayShown}
use Rattle.gob_stream.specs.Outcome.{BeginsWithStream, Outcome, refused}
use Rattle.gob_stream.specs.Reading.{Given, ShowsRefusal}
use Rattle.gob_stream.specs.Calls.Session.{HasRead, FeedAnswers, FinishAnswers}
use Rattle.gob_stream.specs.Stream.{no_more}
use Rattle.gob_stream.specs.Calls.Writing.{WritesStream}
use Rattle.gob_stream.proofs.PublicLaws.{views_behind}
use Rattle.gob_stream_laws.specs.Pieces.{joined, HasOutcome}

-- ---- written and read back
-- what was written to memory that was empty
pub written_so : (L : Bounds) (items : List StreamItem) (bytes : List ℕ) (old : List ℕ) → old ≡ []
    → WritesStream L items (Some old) (Some bytes) (Ok tt) → WrittenWithin L items bytes
written_so L items bytes old e w =
    record {
      limits = L;
      within = record {
        item = omega arith;
        depth = omega arith;
        types = omega arith;
        stream =
            omega arith;
      };
      written = subst (λ old. WritesStream L items (Some old) (Some bytes) (Ok tt)) e w;
    }

pub never_refused : (given items : List StreamItem) (f : Fault) (R : Refusal) → f ≡ fault.Refused R
    → ReadsThese given items (Err f) → ⊥
never_refused given items f R e h = subst (λ f. ReadsThese given items (Err f)) e h

-- ---- read in pieces
-- the session of trees has given these, of these bytes
abbrev pub HasGiven : SessionState TreeBuilder Value → List (declared.Item Value) → List ℕ → Type 0
HasGiven s given bytes = HasRead tree_building s (item_views given) bytes

abbrev pub FeedsTrees : (s s' : SessionState TreeBuilder Value) → List StreamItem → (bytes piece : List ℕ)
    → List (declared.Item Value) → Result (Unit {0}) Fault → Type 0
FeedsTrees s s' items bytes piece given result = FeedAnswers tree_building s s' items bytes piece given result

-- the fault that a `?` returns is the callee's
pub passed_on : {A E : Type 0} (Q : Result A E → Type 0) (r : Result A E) (e : E) → IsErrAnd r (λ y. y ≡ e) → Q (Err e)
    → Q r
passed_on Q (Ok x) e p q = absurd p
passed_on Q (Err y) e p q = subst (λ e. Q (Err e)) (sym p) q

pub begins_with_none : (L : Bounds) (bytes : List ℕ) → BeginsWithStream base_table L bytes []
begins_with_none L bytes = record { prefix = []; rest = bytes; table = base_table; stream = no_more; whole = refl }

-- the pieces up to one, that one, and those behind it
joined_append : (xs ys : List (Vec ℕ)) → joined (xs ++ ys) ≡ joined xs ++ joined ys
joined_append [] ys = refl
joined_append (x ∷ xs) ys = ap (λ l. x.items ++ l) (joined_append xs ys)
    ∙ sym (append_assoc x.items (joined xs) (joined ys))

pub joined_more : (pieces : List (Vec ℕ)) (n : ℕ) (piece : Vec ℕ) → piece ≡ get_or pieces n piece → n < length pieces
    → joined (take (n + 1) pieces) ≡ joined (take n pieces) ++ piece.items
joined_more pieces n piece is within =
    ap (λ l. joined l) (take_more pieces n piece within ∙ ap (λ p. take n pieces ++ p ∷ []) (sym is))
    ∙ joined_append (take n pieces) (piece ∷ []) ∙ ap (λ l. joined (take n pieces) ++ l) (append-nil piece.items)

joined_all : (pieces : List (Vec ℕ)) (n : ℕ) → joined pieces ≡ joined (take n pieces) ++ joined (drop n pieces)
joined_all pieces n = ap (λ l. joined l) (sym (take-append-drop n pieces))
    ∙ joined_append (take n pieces) (drop n pieces)

-- a refusal that some of the bytes show is that of all
shown_of_all : StreamsStayShown → (L : Bounds) (prefix rest : List ℕ) {bytes : List ℕ} (items : List StreamItem)
    (R : Refusal) → bytes ≡ prefix ++ rest → ShowsRefusal L prefix items R
    → Outcome base_table L bytes items (refused R)
shown_of_all law L prefix rest {bytes = bytes} items R e h =
    let seen = (law L prefix prefix items R h refl).0 in
    (law L prefix bytes items R h (ap (λ b. take R.seen b) e ∙ take-append-le R.seen prefix rest seen)).1.outcome

stops_so : StreamsStayShown → (L : Bounds) (s s' : SessionState TreeBuilder Value)
    (before given : List (declared.Item Value)) (bytes piece rest : List ℕ) {all : List ℕ} (f : Fault)
    → no_deeper 1000 s.limits ≡ L → all ≡ (bytes ++ piece) ++ rest
    → FeedsTrees s s' (item_views before) bytes piece given (Err f) → HasOutcome L all (item_views (before ++ given))
    (Err f)
stops_so law L s s' before given bytes piece rest {all = all} (fault.Refused R) l e h =
    let shown = subst (λ L. ShowsRefusal L (bytes ++ piece) (item_views before ++ h.0.more) R) l h.0.holds.0 in
    subst (λ i. Outcome base_table L all i (refused R)) (sym (views_behind before h.0.mean))
    (shown_of_all law L (bytes ++ piece) rest (item_views before ++ h.0.more) R e shown)
stops_so law L s s' before given bytes piece rest {all = all} fault.Memory l e h =
    let t = h.holds.0 in
    let b = subst (λ L. BeginsWithStream base_table L t.prefix (item_views before ++ h.more)) l t.given.begins in
    subst (λ i. BeginsWithStream base_table L all i) (sym (views_behind before h.mean))
    (record {
      prefix = b.prefix;
      rest = b.rest ++ (t.rest ++ rest);
      table = b.table;
      stream = b.stream;
      whole = e ∙ ap (λ x. x ++ rest) t.whole ∙ append_assoc t.prefix t.rest rest
          ∙ ap (λ x. x ++ (t.rest ++ rest)) b.whole ∙ append_assoc b.prefix b.rest (t.rest ++ rest);
    })
stops_so law L s s' before given bytes piece rest fault.Read l e h = h
stops_so law L s s' before given bytes piece rest fault.Failed l e h = h

-- a piece that is refused, or for which no memory was had
pub piece_stops : StreamsStayShown → (L : Bounds) (s s' : SessionState TreeBuilder Value)
    {out out' out'' : List (declared.Item Value)} (pieces : List (Vec ℕ)) (n : ℕ) (piece : Vec ℕ) (taken : List ℕ)
    (r : Result (Unit {0}) Fault) (f : Fault) → taken ≡ piece.items → IsErrAnd r (λ y. y ≡ f)
    → no_deeper 1000 s.limits ≡ L → piece ≡ get_or pieces n piece → n < length pieces
    → Given out out' (λ given. HasGiven s given (joined (take n pieces)))
    → Given out' out'' (λ given. (items : List StreamItem) (bytes : List ℕ) → HasRead tree_building s items bytes
    → FeedsTrees s s' items bytes taken given (Err f))
    → Given out out'' (λ given. HasOutcome L (joined pieces) (item_views given) r)
piece_stops law L s s' {out = out} pieces n piece taken r f same e l is within h k = record {
  given = h.given ++ k.given;
  appended = k.appended ∙ ap (λ x. x ++ k.given) h.appended ∙ append_assoc out h.given k.given;
  holds = passed_on (λ r. HasOutcome L (joined pieces) (item_views (h.given ++ k.given)) r) r f e
      (stops_so law L s s' h.given k.given (joined (take n pieces)) taken (joined (drop (n + 1) pieces)) f l
      (joined_all pieces (n + 1) ∙ ap (λ x. x ++ joined (drop (n + 1) pieces)) (joined_more pieces n piece is within
      ∙ ap (λ x. joined (take n pieces) ++ x) (sym same))) (k.holds (item_views h.given) (joined (take n pieces))
      h.holds));
}

-- or that is taken
pub piece_taken : (s s' : SessionState TreeBuilder Value) {out out' out'' : List (declared.Item Value)}
    (pieces : List (Vec ℕ)) (n : ℕ) (piece : Vec ℕ) (u : Unit {0}) → piece ≡ get_or pieces n piece → n < length pieces
    → Given out out' (λ given. HasGiven s given (joined (take n pieces)))
    → Given out' out'' (λ given. (items : List StreamItem) (bytes : List ℕ) → HasRead tree_building s items bytes
    → FeedsTrees s s' items bytes piece.items given (Ok u))
    → Given out out'' (λ given. HasGiven s' given (joined (take (n + 1) pieces)))
piece_taken s s' {out = out} pieces n piece u is within h k =
    let f = k.holds (item_views h.given) (joined (take n pieces)) h.holds in
    let S : List StreamItem → List ℕ → Type 0 = λ items bytes. HasRead tree_building s' items bytes in
    record {
      given = h.given ++ k.given;
      appended = k.appended ∙ ap (λ x. x ++ k.given) h.appended ∙ append_assoc out h.given k.given;
      holds = subst (λ b. S (item_views (h.given ++ k.given)) b) (sym (joined_more pieces n piece is within))
          (subst (λ i. S i (joined (take n pieces) ++ piece.items)) (sym (views_behind h.given f.mean)) f.holds);
    }

-- the end of the last piece
finishes_so : (L : Bounds) (s s' : SessionState TreeBuilder Value) (items : List StreamItem) (bytes : List ℕ)
    (r : Result (Unit {0}) Fault) → no_deeper 1000 s.limits ≡ L → FinishAnswers tree_building s s' items bytes r
    → HasOutcome L bytes items r
finishes_so L s s' items bytes (Ok u) l h = subst (λ L. HasOutcome L bytes items (Ok u)) l h.0
finishes_so L s s' items bytes (Err (fault.Refused R)) l h =
    subst (λ L. HasOutcome L bytes items (Err (fault.Refused R))) l h.0
finishes_so L s s' items bytes (Err fault.Read) l h = h
finishes_so L s s' items bytes (Err fault.Memory) l h = absurd h
finishes_so L s s' items bytes (Err fault.Failed) l h = h

pub pieces_end : (L : Bounds) (s s' : SessionState TreeBuilder Value) {out out' : List (declared.Item Value)}
    (pieces : List (Vec ℕ)) (n : ℕ) (r : Result (Unit {0}) Fault) → no_deeper 1000 s.limits ≡ L → length pieces ≤ n
    → Given out out' (λ given. HasGiven s given (joined (take n pieces)))
    → ((items : List StreamItem) (bytes : List ℕ) → HasRead tree_building s items bytes
    → FinishAnswers tree_building s s' items bytes r)
    → Given out out' (λ given. HasOutcome L (joined pieces) (item_views given) r)
pieces_end L s s' pieces n r l past h k = record {
  given = h.given;
  appended = h.appended;
  holds = subst (λ p. HasOutcome L (joined p) (item_views h.given) r) (take_all n pieces past)
      (finishes_so L s s' (item_views h.given) (joined (take n pieces)) r l
      (k (item_views h.given) (joined (take n pieces)) h.holds));
}
