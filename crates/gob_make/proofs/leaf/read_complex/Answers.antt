use Rattle.std.proofs.Common.{◌≡◌, ℕ, List, ◌∷◌, refl, rules, subst, sym}
use Rattle.json.specs.Json as json
use Rattle.json.specs.Token.{Token}
use Rattle.json.specs.declared.token.Token.TheVariants as taken
use Rattle.gob_types.specs.declared.basic.Basic.TheVariants as basic
use Rattle.gob_value.specs.Tree.{Tree}
use Rattle.gob_make.specs.Leaf.{ReadsBasic, ReadsFloat}
use Rattle.gob_make.specs.Leaf as leaf
use Rattle.gob_make.specs.Tells.{Begins}
use Rattle.gob_make.proofs.ReadLaws.{pair_stands}
use Rattle.gob_make.proofs.TakenLaws.{from_this, retaken}
use Rattle.gob_make.proofs.ViewLaws.{view-Complex}
use Rattle.gob_make.proofs.leaf.read_complex.Goals as goal

complex_said : {p q : ℕ} (m0 m1 m2 now : List Token) → Begins (λ j. ReadsFloat j p) m0 m1
    → Begins (λ j. ReadsFloat j q) m1 m2 → m2 ≡ Token.end_array ∷ now
    → Begins (λ j. ReadsBasic basic.Complex j (Tree.complex p q)) (Token.begin_array ∷ m0) now
complex_said m0 m1 m2 now a b close = record {
  json = json.array (json.item a.json (json.item b.json json.no_items));
  holds = leaf.of_complex a.holds b.holds;
  stands = pair_stands a.json b.json _ m0 m1 m2 now refl a.stands b.stands close;
}

pub returns-clause-read : goal.returns-clause-read
returns-clause-read c =
    let now = c.take_array_end.new.tokens in
    from_this taken.BeginArray (search rules)
    (subst (λ v. Begins (λ j. ReadsBasic basic.Complex j v) (Token.begin_array ∷ c.args.said.now.tokens) now)
    (sym (view-Complex c.in_ok-real.real c.in_ok-imaginary.imaginary))
    (complex_said _ _ _ now
    (retaken c.next-token.result _ _ _ c.next-token.ensures.value c.in_ok-real.ensures.read)
    (retaken c.next-token-2.result _ _ _ c.next-token-2.ensures.value c.in_ok-imaginary.ensures.read)
    c.in_ok-take_array_end.ensures.ok))
