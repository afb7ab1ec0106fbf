use Rattle.std.proofs.Common.{◌≡◌, ◌∙◌, ◌∷◌, ◌++◌, ℕ, List, ap, codes, sym}
use Rattle.json.specs.Token.{Token}
use Rattle.gob_types.specs.declared.id.TypeId.{TypeId}
use Rattle.gob_lines.proofs.UniqueLaws.{behind}
use Rattle.gob_lines.proofs.WholeLaws.{fault_reads}
use Rattle.gob_go_lines.specs.declared.held.Held.{Held}
use Rattle.gob_go_lines.proofs.HeldLaws.{behind_name, front_tokens}
use Rattle.gob_go_lines.proofs.held.take_held.Goals as goal

pub returns-clause-read : goal.returns-clause-read
returns-clause-read c =
    let number = c.in_ok-id.ensures.read in (
      number.json,
      number.is,
      front_tokens c.in_ok-name.name.items number.json c.args.tokens.now c.take_key.new.tokens
          c.take_object.new.tokens c.take_key-2.new.tokens c.read_name.new.tokens c.take_key-3.new.tokens
          c.read_type.new.tokens c.take_key-4.new.tokens c.in_ok-take_key.ensures.ok c.in_ok-take_object.ensures.ok
          c.in_ok-take_key-2.ensures.ok c.in_ok-name.ensures.read c.in_ok-take_key-3.ensures.ok number.reads
          c.in_ok-take_key-4.ensures.ok,
    )

pub returns-in_err-take_key-clause-whole : goal.returns-in_err-take_key-clause-whole
returns-in_err-take_key-clause-whole c = λ name id rest o some may small said.
    fault_reads (λ (p : Held). (p.name.items, p.id)) c.from_residual.result
    c.in_err-take_key.field-0.0 c.take_key.new.tokens (name, id) rest c.from_residual.ensures.1
    (λ w. c.in_err-take_key.ensures.none w _ said.2)

pub returns-in_err-take_object-clause-whole : goal.returns-in_err-take_object-clause-whole
returns-in_err-take_object-clause-whole c = λ name id rest o some may small said.
    let at1 = ap behind (sym c.in_ok-take_key.ensures.ok ∙ said.2) in
    fault_reads (λ (p : Held). (p.name.items, p.id)) c.from_residual-in_err-take_object.result
    c.in_err-take_object.field-0.0 c.take_object.new.tokens (name, id) rest c.from_residual-in_err-take_object.ensures.1
    (λ w. c.in_err-take_object.ensures.none w _ at1)

pub returns-in_err-take_key-2-clause-whole : goal.returns-in_err-take_key-2-clause-whole
returns-in_err-take_key-2-clause-whole c = λ name id rest o some may small said.
    let at1 = ap behind (sym c.in_ok-take_key.ensures.ok ∙ said.2) in
    let at2 = ap behind (sym c.in_ok-take_object.ensures.ok ∙ at1) in
    fault_reads (λ (p : Held). (p.name.items, p.id)) c.from_residual-in_err-take_key-2.result
    c.in_err-take_key-2.field-0.0 c.take_key-2.new.tokens (name, id) rest c.from_residual-in_err-take_key-2.ensures.1
    (λ w. c.in_err-take_key-2.ensures.none w _ at2)

pub returns-in_err-name-clause-whole : goal.returns-in_err-name-clause-whole
returns-in_err-name-clause-whole c = λ name id rest o some may small said.
    let at1 = ap behind (sym c.in_ok-take_key.ensures.ok ∙ said.2) in
    let at2 = ap behind (sym c.in_ok-take_object.ensures.ok ∙ at1) in
    let at3 = ap behind (sym c.in_ok-take_key-2.ensures.ok ∙ at2) in
    fault_reads (λ (p : Held). (p.name.items, p.id)) c.from_residual-in_err-name.result
    c.in_err-name.field-0.0 c.read_name.new.tokens (name, id) rest c.from_residual-in_err-name.ensures.1
    (c.in_err-name.ensures.whole name (behind_name said.0 rest) o some at3)

pub returns-in_err-take_key-3-clause-whole : goal.returns-in_err-take_key-3-clause-whole
returns-in_err-take_key-3-clause-whole c = λ name id rest o some may small said.
    let at1 = ap behind (sym c.in_ok-take_key.ensures.ok ∙ said.2) in
    let at2 = ap behind (sym c.in_ok-take_object.ensures.ok ∙ at1) in
    let at3 = ap behind (sym c.in_ok-take_key-2.ensures.ok ∙ at2) in
    let named = c.in_ok-name.ensures.whole name (behind_name said.0 rest) o some at3 in
    fault_reads (λ (p : Held). (p.name.items, p.id)) c.from_residual-in_err-take_key-3.result
    c.in_err-take_key-3.field-0.0 c.take_key-3.new.tokens (name, id) rest c.from_residual-in_err-take_key-3.ensures.1
    (λ w. c.in_err-take_key-3.ensures.none w _ named.1)

pub returns-in_err-id-clause-whole : goal.returns-in_err-id-clause-whole
returns-in_err-id-clause-whole c = λ name id rest o some may small said.
    let at1 = ap behind (sym c.in_ok-take_key.ensures.ok ∙ said.2) in
    let at2 = ap behind (sym c.in_ok-take_object.ensures.ok ∙ at1) in
    let at3 = ap behind (sym c.in_ok-take_key-2.ensures.ok ∙ at2) in
    let named = c.in_ok-name.ensures.whole name (behind_name said.0 rest) o some at3 in
    let at4 = ap behind (sym c.in_ok-take_key-3.ensures.ok ∙ named.1) in
    fault_reads (λ (p : Held). (p.name.items, p.id)) c.from_residual-in_err-id.result
    c.in_err-id.field-0.0 c.read_type.new.tokens (name, id) rest c.from_residual-in_err-id.ensures.1
    (c.in_err-id.ensures.whole id said.0 (Token.key (codes "value") ∷ rest) may small said.1 at4)

pub returns-in_err-take_key-4-clause-whole : goal.returns-in_err-take_key-4-clause-whole
returns-in_err-take_key-4-clause-whole c = λ name id rest o some may small said.
    let at1 = ap behind (sym c.in_ok-take_key.ensures.ok ∙ said.2) in
    let at2 = ap behind (sym c.in_ok-take_object.ensures.ok ∙ at1) in
    let at3 = ap behind (sym c.in_ok-take_key-2.ensures.ok ∙ at2) in
    let named = c.in_ok-name.ensures.whole name (behind_name said.0 rest) o some at3 in
    let at4 = ap behind (sym c.in_ok-take_key-3.ensures.ok ∙ named.1) in
    let typed = c.in_ok-id.ensures.whole id said.0 (Token.key (codes "value") ∷ rest) may small said.1 at4 in
    fault_reads (λ (p : Held). (p.name.items, p.id)) c.from_residual-in_err-take_key-4.result
    c.in_err-take_key-4.field-0.0 c.take_key-4.new.tokens (name, id) rest c.from_residual-in_err-take_key-4.ensures.1
    (λ w. c.in_err-take_key-4.ensures.none w _ typed.1)

pub returns-clause-whole : goal.returns-clause-whole
returns-clause-whole c = λ name id rest o some may small said.
    let at1 = ap behind (sym c.in_ok-take_key.ensures.ok ∙ said.2) in
    let at2 = ap behind (sym c.in_ok-take_object.ensures.ok ∙ at1) in
    let at3 = ap behind (sym c.in_ok-take_key-2.ensures.ok ∙ at2) in
    let named = c.in_ok-name.ensures.whole name (behind_name said.0 rest) o some at3 in
    let at4 = ap behind (sym c.in_ok-take_key-3.ensures.ok ∙ named.1) in
    let typed = c.in_ok-id.ensures.whole id said.0 (Token.key (codes "value") ∷ rest) may small said.1 at4 in (
      ap (λ (a : List ℕ). (a, c.in_ok-id.id)) named.0 ∙ ap (λ (i : TypeId). (name, i)) typed.0,
      ap behind (sym c.in_ok-take_key-4.ensures.ok ∙ typed.1),
    )
