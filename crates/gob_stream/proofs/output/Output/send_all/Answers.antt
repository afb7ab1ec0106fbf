use Rattle.std.proofs.Common.{◌≡◌, ℕ, ◌+◌, ◌-◌, List, ◌++◌, length, take, drop, rules, arith, sym, ap, subst, ◌∙◌}
use Rattle.std.proofs.Common.{append-nil, take-append-drop}
use Rattle.std.proofs.lemmas.List.{take_rest}
use Rattle.std.proofs.Math.Seq.{take-add}
use Rattle.std.specs.Io.KnownBytes.{Appends}
use Rattle.std.proofs.KnownBytes.{Appends-trans, Appends-kept}
use Rattle.gob_stream.proofs.output.Output.send_all.Goals as goal

-- the bytes sent so far, and those of one write more
sent_more : (bytes : List ℕ) (sent n : ℕ) → take sent bytes ++ take n (take (length bytes - sent) (drop sent bytes)) ≡
    take (sent + n) bytes
sent_more bytes sent n = ap (λ rest. take sent bytes ++ take n rest) (take_rest bytes sent)
    ∙ sym (take-add sent n bytes)

sent_none : (bytes : List ℕ) (sent n : ℕ) → n ≡ 0 → take sent bytes
    ++ take n (take (length bytes - sent) (drop sent bytes)) ≡ take sent bytes
sent_none bytes sent n none = ap (λ m. take sent bytes ++ take m (take (length bytes - sent) (drop sent bytes))) none
    ∙ append-nil (take sent bytes)

pub loop-sent-preserved : goal.loop-sent-preserved
loop-sent-preserved g c =
    let bytes = c.args.bytes.now in
    let sent = c.loop-sent.sent in
    let n = c.in-Ok.n in
    record {
      within = search rules;
      out = subst (Appends _ _) (sent_more bytes sent n) (Appends-trans _ _ _ _ _ c.loop-sent.invariant.out
          c.in-Ok.ensures.bytes);
      sound = search rules;
    }

pub returns-in_default-clause-prefix : goal.returns-in_default-clause-prefix
returns-in_default-clause-prefix g c =
    let bytes = c.args.bytes.now in
    let sent = c.loop-sent.sent in
    let none : c.in-Ok.n ≡ 0 = omega arith in
    record {
      prefix = take sent bytes;
      rest = drop sent bytes;
      whole = sym (take-append-drop sent bytes);
      out = subst (Appends _ _) (sent_none bytes sent c.in-Ok.n none) (Appends-trans _ _ _ _ _ c.loop-sent.invariant.out
          c.in-Ok.ensures.bytes);
    }

pub returns-in_default-2-clause-prefix : goal.returns-in_default-2-clause-prefix
returns-in_default-2-clause-prefix g c =
    let bytes = c.args.bytes.now in
    let sent = c.loop-sent.sent in
    record {
      prefix = take sent bytes;
      rest = drop sent bytes;
      whole = sym (take-append-drop sent bytes);
      out = Appends-kept _ _ _ _ c.loop-sent.invariant.out c.in_default.ensures.bytes;
    }
