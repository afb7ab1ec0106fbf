-- Token by token, and null by null.
use Rattle.std.proofs.Common.{◌≡◌, ◌∙◌, ◌+◌, ◌∷◌, [], ◌++◌, List, ap, drop, refl, rules, subst, sym}
use Rattle.json.specs.Reads.{token_of}
use Rattle.json.specs.Token.{Token, null}
use Rattle.gob_json_writer.specs.WritesJson.{WritesTokens}
use Rattle.json.specs.Lex.{tokens}
use Rattle.gob_plain.specs.Machine.Levels.{HeldSay, held_of}
use Rattle.gob_plain.specs.Machine.Nulls.{left_held, token_held}
use Rattle.gob_plain.proofs.GoodTokens.{next_good, not_bad}
use Rattle.gob_plain.proofs.LevelLaws.{NextSays, bare_told, level_good, next_says, none_next, one_on, same_left}
use Rattle.gob_plain.proofs.LevelLaws.{same_token}
use Rattle.gob_plain.proofs.go.level.+level.Goals as goal

pub write_inner-returns-in-Bad-clause-written : goal.write_inner-returns-in-Bad-clause-written
write_inner-returns-in-Bad-clause-written t c = λ j h. absurd
    (not_bad (subst (λ t. c.tokens.reader ≡ token_of t ∷ c.next.new.self) c.in-Bad.is c.in-Some.ensures.value)
    (c.tokens.invariant.good (level_good h)))

pub write_inner-tokens-preserved-in-Continue-branch-3 :
    goal.write_inner-tokens-preserved-in-Continue-branch-3
write_inner-tokens-preserved-in-Continue-branch-3 t c =
    let reader = subst (λ t. c.tokens.reader ≡ token_of t ∷ c.next.new.self) c.in-Null.is c.in-Some.ensures.value in
    record {
      before = c.in_ok-write_next-in-Null.ensures.before ∙ c.tokens.invariant.before;
      all = λ said h. one_on null (drop c.tokens.nulls said) c.tokens.out.tokens (c.tokens.invariant.all said h) reader
          (c.in_ok-write_next-in-Null.ensures.written said h).tokens (c.in_ok-write_next-in-Null.ensures.passed said h);
      good = λ g. next_good reader (c.tokens.invariant.good g);
    }

pub write_inner-tokens-preserved : goal.write_inner-tokens-preserved
write_inner-tokens-preserved t c =
    let token = c.in-Some.token in
    let ok = c.in_ok-token-in_default-token.ensures in
    record {
      before = ok.room.0 ∙ c.tokens.invariant.before;
      all = λ said h.
          let left = drop c.tokens.nulls said in
          one_on (token_of token) left c.tokens.out.tokens (c.tokens.invariant.all said h) c.in-Some.ensures.value
          (ok.ok ∙ ap (λ (l : List Token). c.tokens.out.tokens ++ l)
          (sym (same_token token left c.in_default-token.not-Null)))
          (same_left token left c.in_default-token.not-Null);
      good = λ g. next_good c.in-Some.ensures.value (c.tokens.invariant.good g);
    }

pub write_next-returns-in_default-clause-written :
    goal.write_next-returns-in_default-clause-written
write_next-returns-in_default-clause-written t c = λ said h.
    subst (λ l. WritesTokens c.null.result c.args.out.now c.null.new.self (token_held null l))
    (sym (none_next c.args.nulls.now (subst (λ l. HeldSay l said) (sym c.deref.ensures.value) h)
    c.in_default.ensures.lookup.3))
    (record { tokens = c.null.ensures.ok; before = c.null.ensures.room.0 })

pub write_next-returns-in_default-clause-passed : goal.write_next-returns-in_default-clause-passed
write_next-returns-in_default-clause-passed t c = λ said h.
    subst (λ l. l ≡ left_held null l)
    (sym (none_next c.args.nulls.now (subst (λ l. HeldSay l said) (sym c.deref.ensures.value) h)
    c.in_default.ensures.lookup.3))
    refl

pub write_next-returns-in-Some-next-clause-written :
    goal.write_next-returns-in-Some-next-clause-written
write_next-returns-in-Some-next-clause-written t c = λ said h.
    let n = c.args.nulls.now in
    let next : NextSays c.in-Some.next.now (drop n said) (drop (n + 1) said) =
    next_says n c.in-Some.next.now (subst (λ l. HeldSay l said) (sym c.deref.ensures.value) h)
    c.in-Some.ensures.lookup.3.0 c.in-Some.ensures.lookup.1 in
    let s = next.some c.in-Some-next.held c.in-Some-next.is in
    subst (λ l. WritesTokens c.write_held.result c.args.out.now c.write_held.new.out (token_held null l)) (sym s.2)
    (c.write_held.ensures.written s.0 s.1)

pub write_next-returns-in-Some-next-clause-passed :
    goal.write_next-returns-in-Some-next-clause-passed
write_next-returns-in-Some-next-clause-passed t c = λ said h.
    let n = c.args.nulls.now in
    let next : NextSays c.in-Some.next.now (drop n said) (drop (n + 1) said) =
    next_says n c.in-Some.next.now (subst (λ l. HeldSay l said) (sym c.deref.ensures.value) h)
    c.in-Some.ensures.lookup.3.0 c.in-Some.ensures.lookup.1 in
    let s = next.some c.in-Some-next.held c.in-Some-next.is in
    sym (ap (λ l. left_held null l) s.2)

pub write_next-returns-in-None-clause-written : goal.write_next-returns-in-None-clause-written
write_next-returns-in-None-clause-written t c = λ said h.
    let n = c.args.nulls.now in
    let next : NextSays c.in-Some.next.now (drop n said) (drop (n + 1) said) =
    next_says n c.in-Some.next.now (subst (λ l. HeldSay l said) (sym c.deref.ensures.value) h)
    c.in-Some.ensures.lookup.3.0 c.in-Some.ensures.lookup.1 in
    subst (λ l. WritesTokens c.null-in-None.result c.args.out.now c.null-in-None.new.self (token_held null l))
    (sym (next.none c.in-None.is))
    (record { tokens = c.null-in-None.ensures.ok; before = c.null-in-None.ensures.room.0 })

pub write_next-returns-in-None-clause-passed : goal.write_next-returns-in-None-clause-passed
write_next-returns-in-None-clause-passed t c = λ said h.
    let n = c.args.nulls.now in
    let next : NextSays c.in-Some.next.now (drop n said) (drop (n + 1) said) =
    next_says n c.in-Some.next.now (subst (λ l. HeldSay l said) (sym c.deref.ensures.value) h)
    c.in-Some.ensures.lookup.3.0 c.in-Some.ensures.lookup.1 in
    sym (ap (λ l. left_held null l) (next.none c.in-None.is))

pub write_inner-returns-then-is_empty-clause-written : goal.write_inner-returns-then-is_empty-clause-written
write_inner-returns-then-is_empty-clause-written t c = λ j h.
    let none : held_of c.args.level.now ≡ [] = search rules in
    c.copy_json.ensures.tokens j (ap tokens c.as_str.ensures.value ∙ bare_told none h)
