use Rattle.std.proofs.Common.{ℕ, List, [], length, arith, refl, sym, subst}
use Rattle.gob_read.specs.Refusal.{Refused}
use Rattle.gob_read.proofs.Grammar.Firsts.{extra_first}
use Rattle.gob_read.proofs.Grammar.Deep.{within_shallow}
use Rattle.gob_read.proofs.Grammar.Prefixes.{append_nil}
use Rattle.gob_read.proofs.Grammar.Seen.{only_extra}
use Rattle.gob_read.proofs.Grammar.Honest.{deep_refused}
use Rattle.gob_read.proofs.laws.whole_values_are_accepted.Goals as goal

pub returns-clause-extra : goal.returns-clause-extra
returns-clause-extra c T t limit announced v b r S s l k = only_extra r s l k

pub returns-clause-given : goal.returns-clause-given
returns-clause-given c T t limit announced v b r s l k = extra_first r s (within_shallow s l) refl k

pub returns-clause-accepted : goal.returns-clause-accepted
returns-clause-accepted c T t limit v b S s l k =
    let n = (only_extra [] s l (subst (λ (z : List ℕ). Refused T t limit (length b) z S) (sym (append_nil b)) k)).1 in
    omega arith

pub returns-clause-deep : goal.returns-clause-deep
returns-clause-deep c T t limit announced v b r s l = deep_refused announced r s l
