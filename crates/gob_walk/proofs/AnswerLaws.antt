-- What a visitor or an output answers that is told of parts, or given pieces of a text, one behind another.
use Rattle.std.proofs.Common.{◌≡◌, ℕ, ◌+◌, true, List, ◌++◌, drop, nat_lt, Result, Ok, Err, IfOk, arith, sym, subst}
use Rattle.std.proofs.lemmas.Bool.{lt-ltb}
use Rattle.std.specs.Result.{IsErrAnd, result_and}
use Rattle.gob_walk.specs.Told.{Reaches, Sends, as_stop, without_end}
use Rattle.gob_walk.specs.declared.walk_end.WalkEnd.{WalkEnd}
use Rattle.gob_walk.specs.declared.walk_end.WalkEnd.TheVariants as stops

-- a number above another is above 0
pub later_on : (n : ℕ) → nat_lt 0 (n + 1) ≡ true
later_on n = lt-ltb 0 (n + 1) (omega arith)

module _ {O E A : Type 0} (tells : O → O → List A → Result (Unit {0}) E → Type 0) where
  pub reached : {old new : O} {text : List A} (r : Result (Unit {0}) E) → tells old new text r
      → Reaches tells old new text (as_stop r)
  reached (Ok u) p = record { answers = p }
  reached (Err e) p = record { answers = p }

  pub took : {old new : O} {text : List A} → tells old new text (Ok tt) → Reaches tells old new text (Ok tt)
  took p = record { answers = p }

  pub stopped : {old new : O} {text : List A} {e : E} → tells old new text (Err e)
      → Reaches tells old new text (Err (stops.Out e))
  stopped p = record { answers = p }

  pub reached_both : ((a b c : O) (x y : List A) (r : Result (Unit {0}) E) → tells a b x (Ok tt) → tells b c y r
      → tells a c (x ++ y) r)
      → (a b c : O) (x y : List A) (r : Result (Unit {0}) (WalkEnd E)) → Reaches tells a b x (Ok tt)
      → Reaches tells b c y r
      → Reaches tells a c (x ++ y) r
  reached_both joined a b c x y (Ok u) p q = record { answers = joined a b c x y (Ok u) p.answers q.answers }
  reached_both joined a b c x y (Err (stops.Out e)) p q =
      record { answers = joined a b c x y (Err e) p.answers q.answers }
  reached_both joined a b c x y (Err stops.NotWhole) p q = absurd q.answers

  pub reached_prefix : ((a b : O) (x y : List A) (e : E) → tells a b x (Err e) → tells a b (x ++ y) (Err e))
      → (a b : O) (x y : List A) (e : WalkEnd E) → Reaches tells a b x (Err e) → Reaches tells a b (x ++ y) (Err e)
  reached_prefix cut a b x y (stops.Out e) p = record { answers = cut a b x y e p.answers }
  reached_prefix cut a b x y stops.NotWhole p = absurd p.answers

end_so : {E : Type 0} (P : ℕ → Type 0) (end : ℕ) (r : Result (Unit {0}) E) → P end → IfOk (result_and r (Ok end)) P
end_so P end (Ok u) p = p
end_so P end (Err f) p = tt

-- the end that is given behind the last of the text
pub end_as : {E : Type 0} (P : ℕ → Type 0) (end : ℕ) (r : Result (Unit {0}) E) (q : Result ℕ E)
    → q ≡ result_and r (Ok end) → P end → IfOk q P
end_as P end r q e p = subst (λ q. IfOk q P) (sym e) (end_so P end r p)

module _ {O E A : Type 0} (tells : O → O → List A → Result (Unit {0}) E → Type 0) where
  -- ---- what is answered
  -- what sends a text sends any that equals it
  pub sends_as : {old new : O} {text shown : List A} {body rest : List ℕ} {q : Result ℕ E} → text ≡ shown
      → Sends tells old new text body rest q → Sends tells old new shown body rest q
  sends_as {old = old} {new = new} {q = q} e p =
      record { put = subst (λ t. tells old new t (without_end q)) e p.put; behind = p.behind }

  sent_so : {old new : O} {text : List A} {body rest : List ℕ} (end : ℕ) (r : Result (Unit {0}) E)
      → drop end body ≡ rest
      → tells old new text r → Sends tells old new text body rest (result_and r (Ok end))
  sent_so end (Ok u) d p = record { put = p; behind = d }
  sent_so end (Err f) d p = record { put = p; behind = tt }

  -- the text was the last
  pub sent_behind : {old new : O} {text shown : List A} {body rest : List ℕ} (end : ℕ) (r : Result (Unit {0}) E)
      (q : Result ℕ E)
      → q ≡ result_and r (Ok end) → drop end body ≡ rest → text ≡ shown → tells old new text r
      → Sends tells old new shown body rest q
  sent_behind {old = old} {new = new} {shown = shown} {body = body} {rest = rest} end r q e d t p =
      subst (λ q. Sends tells old new shown body rest q) (sym e) (sent_so end r d (subst (λ t. tells old new t r) t p))

  -- a `?` ends it
  pub sent_failed : {old new : O} {text : List A} {body rest : List ℕ} {f : E} (q : Result ℕ E)
      → IsErrAnd q (λ e. e ≡ f)
      → tells old new text (Err f) → Sends tells old new text body rest q
  sent_failed (Ok end) h p = absurd h
  sent_failed {old = old} {new = new} {text = text} (Err e) h p =
      record { put = subst (λ e. tells old new text (Err e)) (sym h) p; behind = tt }

  -- a `?` ends it where no place is answered
  pub ended_so : {old new : O} {text : List A} {f : E} (r : Result (Unit {0}) E) → IsErrAnd r (λ e. e ≡ f)
      → tells old new text (Err f) → tells old new text r
  ended_so (Ok u) h p = absurd h
  ended_so {old = old} {new = new} {text = text} (Err e) h p = subst (λ e. tells old new text (Err e)) (sym h) p

-- ---- parts, one behind another
-- what was put out so far and then the text is all
abbrev pub GoesOn : {O E A : Type 0} → (O → O → List A → Result (Unit {0}) E → Type 0) → (old now : O)
    → (text all : List A) → Type 0
GoesOn {O} {E} {A} tells old now text all = (new : O) (r : Result (Unit {0}) E) → tells now new text r
    → tells old new all r

module _ {O E A : Type 0} (tells : O → O → List A → Result (Unit {0}) E → Type 0)
    (joined : (a b c : O) (x y : List A) (r : Result (Unit {0}) E) → tells a b x (Ok tt) → tells b c y r
    → tells a c (x ++ y) r)
    (cut : (a b : O) (x y : List A) (e : E) → tells a b x (Err e) → tells a b (x ++ y) (Err e)) where
  pub prefix_failed : {old now new : O} {f : E} {text all : List A} (part others : List A)
      → GoesOn tells old now text all
      → text ≡ part ++ others → tells now new part (Err f) → tells old new all (Err f)
  prefix_failed {now = now} {new = new} {f = f} part others on e p =
      on new (Err f) (subst (λ t. tells now new t (Err f)) (sym e) (cut now new part others f p))

  pub prefix_put : {old now after : O} {text all : List A} (part others : List A) → GoesOn tells old now text all
      → text ≡ part ++ others → tells now after part (Ok tt) → GoesOn tells old after others all
  prefix_put {now = now} {after = after} part others on e p new r w =
      on new r (subst (λ t. tells now new t r) (sym e) (joined now after new part others r p w))

  pub part_failed : {old now mid new : O} {f : E} {text all : List A} (comma part others : List A)
      → GoesOn tells old now text all → text ≡ comma ++ (part ++ others) → tells now mid comma (Ok tt)
      → tells mid new part (Err f) → tells old new all (Err f)
  part_failed {now = now} {mid = mid} {new = new} {f = f} comma part others on e p q =
      on new (Err f) (subst (λ t. tells now new t (Err f)) (sym e)
      (joined now mid new comma (part ++ others) (Err f) p (cut mid new part others f q)))

  pub part_put : {old now mid after : O} {text all : List A} (comma part others : List A)
      → GoesOn tells old now text all
      → text ≡ comma ++ (part ++ others) → tells now mid comma (Ok tt) → tells mid after part (Ok tt)
      → GoesOn tells old after others all
  part_put {now = now} {mid = mid} {after = after} comma part others on e p q new r w =
      on new r (subst (λ t. tells now new t r) (sym e)
      (joined now mid new comma (part ++ others) r p (joined mid after new part others r q w)))

  -- what stands before the parts
  pub begun : {old now : O} (x y : List A) → tells old now x (Ok tt) → GoesOn tells old now y (x ++ y)
  begun {old = old} {now = now} x y p new r q = joined old now new x y r p q

  -- a text, and then what is put out behind it
  pub sent_on : {old mid new : O} {body rest : List ℕ} (x y : List A) (q : Result ℕ E) → tells old mid x (Ok tt)
      → Sends tells mid new y body rest q → Sends tells old new (x ++ y) body rest q
  sent_on {old = old} {mid = mid} {new = new} x y q p s =
      record { put = joined old mid new x y (without_end q) p s.put; behind = s.behind }

-- what one relation says of a visitor another says of its output
pub answers_as : {O P E X Y : Type 0} {tells : O → O → X → Result (Unit {0}) E → Type 0}
    {puts : P → P → Y → Result (Unit {0}) E → Type 0} {old new : O} {a b : P} {x : X} {y : Y} {A : Type 0}
    → ((r : Result (Unit {0}) E) → tells old new x r → A × puts a b y r) → (r : Result (Unit {0}) (WalkEnd E))
    → Reaches tells old new x r → A × Reaches puts a b y r
answers_as f (Ok u) p = let q = f (Ok u) p.answers in (q.0, record { answers = q.1 })
answers_as f (Err (stops.Out e)) p = let q = f (Err e) p.answers in (q.0, record { answers = q.1 })
answers_as f (Err stops.NotWhole) p = absurd p.answers

pub sends_so : {O P E X Y : Type 0} {tells : O → O → X → Result (Unit {0}) E → Type 0}
    {puts : P → P → Y → Result (Unit {0}) E → Type 0} {old new : O} {a b : P} {x : X} {y : Y} {A : Type 0}
    {body rest : List ℕ} {r : Result ℕ (WalkEnd E)}
    → ((r : Result (Unit {0}) E) → tells old new x r → A × puts a b y r)
    → Sends (Reaches tells) old new x body rest r → A × Sends (Reaches puts) a b y body rest r
sends_so {r = r} f p = let q = answers_as f (without_end r) p.put in (q.0, record { put = q.1; behind = p.behind })
