-- A long path is the chain of its first characters, what stands for its middle, and its last characters.
use Rattle.std.proofs.Common.{rules, arith, ◌≡◌, ◌∙◌, ap, sym, IfOk, Result, Ok, Err, String, ℕ, ◌-◌, ◌<◌, ◌≤◌}
use Rattle.std.proofs.Common.{length, List, ◌++◌, take, drop, codes, append_assoc, string_bytes, encode_utf8_all}
use Rattle.std.proofs.lemmas.Bool.Decides.{nat_tests}
use Rattle.std.proofs.lemmas.Iterator.{text_from_collect, YieldsList-from_chars, YieldsList-from_take}
use Rattle.std.proofs.lemmas.Iterator.Adapters.{YieldsList-from_skip}
use Rattle.std.proofs.lemmas.Iterator.Consumers.{YieldsList-at, YieldsList-from_chain, count_from_yields_List}
use Rattle.std.proofs.lemmas.Str.{IsUtf8-string_bytes, IsUtf8-from_ascii, chars_from_encodes, chars-IsAscii}
use Rattle.std.specs.Str.{IsAscii, chars}
use Rattle.gob_words.specs.Paths.{shortened_path}
use Rattle.gob_words.proofs.path.shortened.Goals as goal

-- ---- lists of characters

short_is_kept : (t : List ℕ) → length t ≤ 200 → t ≡ shortened_path t
short_is_kept t h = grind (arith, nat_tests)

long_is_cut : (t : List ℕ) → 200 < length t
    → take 98 t ++ (codes " .. " ++ drop (length t - 98) t) ≡ shortened_path t
long_is_cut t h = grind (arith, nat_tests)

left_out-ascii : IsAscii (codes " .. ")
left_out-ascii = search rules

chain_is_cut : (t : List ℕ) (count : ℕ) → count ≡ length t → 200 < count
    → (take 98 t ++ chars (codes " .. ")) ++ drop (count - 98) t ≡ shortened_path t
chain_is_cut t count counted long =
    append_assoc (take 98 t) (chars (codes " .. ")) (drop (count - 98) t)
    ∙ ap (λ between. take 98 t ++ (between ++ drop (count - 98) t)) (chars-IsAscii (codes " .. ") left_out-ascii)
    ∙ rw counted (long_is_cut t (omega (arith, counted, long)))

-- ---- texts

kept_text : {Z E : Type 0} (r : Result (String Z) E) (bytes : List ℕ) (count : ℕ) → count ≡ length (chars bytes)
    → count ≤ 200 → IfOk r (λ text. string_bytes text ≡ bytes)
    → IfOk r (λ text. chars (string_bytes text) ≡ shortened_path (chars bytes))
kept_text (Ok text) bytes count counted short same =
    ap chars same ∙ short_is_kept (chars bytes) (omega (arith, counted, short))
kept_text (Err e) bytes count counted short same = tt

written_text : {Z E : Type 0} (r : Result (String Z) E) (cs ds : List ℕ) → cs ≡ ds
    → IfOk r (λ text. string_bytes text ≡ encode_utf8_all cs) → IfOk r (λ text. chars (string_bytes text) ≡ ds)
written_text (Ok text) cs ds same written =
    sym (chars_from_encodes cs (string_bytes text) (IsUtf8-string_bytes text) (sym written)) ∙ same
written_text (Err e) cs ds same written = tt

-- ---- the answers

pub returns-then-count-le-MOST_PATH : goal.returns-then-count-le-MOST_PATH
returns-then-count-le-MOST_PATH c =
    kept_text c.from_str.result c.args.path.now c.count-count.result
    (count_from_yields_List c.chars.result c.count-count.result c.count-count.ensures.ran
    (YieldsList-from_chars c.args.path.now c.utf8.path c.chars.ensures.rest))
    c.if-count-le-MOST_PATH.true c.from_str.ensures.ok

pub returns : goal.returns
returns c =
    let path = c.args.path.now in
    let count = c.count-count.result in
    let counted = count_from_yields_List c.chars.result count c.count-count.ensures.ran
    (YieldsList-from_chars path c.utf8.path c.chars.ensures.rest) in
    let start = YieldsList-from_take 98
    (YieldsList-at c.take.ensures.source (YieldsList-from_chars path c.utf8.path c.chars-3.ensures.rest))
    c.take.ensures.count in
    let between = YieldsList-from_chars (codes " .. ") (IsUtf8-from_ascii (codes " .. ") left_out-ascii)
    c.chars-4.ensures.rest in
    let end = YieldsList-from_skip (count - 98)
    (YieldsList-at c.skip-end.ensures.source (YieldsList-from_chars path c.utf8.path c.chars-2.ensures.rest))
    c.skip-end.ensures.count in
    let begun = YieldsList-from_chain (YieldsList-at c.chain.ensures.first start)
    (YieldsList-at c.chain.ensures.second between) c.chain.ensures.first_done c.chain.ensures.second_done in
    let whole = YieldsList-from_chain (YieldsList-at c.chain-2.ensures.first begun)
    (YieldsList-at c.chain-2.ensures.second end) c.chain-2.ensures.first_done c.chain-2.ensures.second_done in
    written_text c.collect.result _ (shortened_path (chars path))
    (chain_is_cut (chars path) count counted (omega (arith, c.if-count-le-MOST_PATH.false)))
    (text_from_collect c.collect.result c.collect.ensures.ran whole)
