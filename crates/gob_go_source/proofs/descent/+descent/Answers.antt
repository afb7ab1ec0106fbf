use Rattle.std.proofs.Common.{◌≡◌, ◌∷◌, ◌++◌, ◌∙◌, [], List, length, refl, ap, sym, subst, arith}
use Rattle.gob_go_source.specs.declared.token.Mark.{Mark}
use Rattle.gob_go_source.specs.declared.token.Token.{Token}
use Rattle.gob_go_source.specs.declared.token.Token.TheVariants as token
use Rattle.gob_go_source.specs.Grammar.{says_pointer, in_parentheses, says_slice, says_array, says_map, says_struct}
use Rattle.gob_go_source.specs.Grammar.{SaysFields, no_fields, says_field, says_channel, only_receives, says_function}
use Rattle.gob_go_source.specs.Grammar.{in_brackets, one_result}
use Rattle.gob_go_source.specs.Left.{left}
use Rattle.gob_go_source.proofs.GrammarLaws.{added, grown_same, grown_then, says_then, fields_then, read_from}
use Rattle.gob_go_source.proofs.GrammarLaws.{one_more_line, field_shorter, channel_begun, results_then, no_results}
use Rattle.gob_go_source.proofs.GrammarLaws.{results_from}
use Rattle.gob_go_source.proofs.descent.+descent.Goals as goal

-- ---- by the first token

pub read_type-returns-in-Some-Name-clause-says : goal.read_type-returns-in-Some-Name-clause-says
read_type-returns-in-Some-Name-clause-says t c =
    read_from c.read_named.result c.read_named.new.types.items (left c.read_named.new.tokens)
    (rw c.in-Some-Name.field-0-is at c.in-Some-Name.ensures.some) c.read_named.ensures.says

pub read_type-returns-in-Some-Mark-clause-says : goal.read_type-returns-in-Some-Mark-clause-says
read_type-returns-in-Some-Mark-clause-says t c =
    read_from c.read_marked.result c.read_marked.new.types.items (left c.read_marked.new.tokens)
    (rw c.in-Some-Mark.field-0-is at c.in-Some-Mark.ensures.some) c.read_marked.ensures.says

pub read_marked-returns-in-Star-clause-says : goal.read_marked-returns-in-Star-clause-says
read_marked-returns-in-Star-clause-says t c =
    read_from c.read_pointer.result c.read_pointer.new.types.items (left c.read_pointer.new.tokens)
    (ap (λ (m : Mark). token.Mark m ∷ left c.args.tokens.now) c.in-Star.is) c.read_pointer.ensures.says

pub read_marked-returns-in-Open-clause-says : goal.read_marked-returns-in-Open-clause-says
read_marked-returns-in-Open-clause-says t c =
    read_from c.read_in_parentheses.result c.read_in_parentheses.new.types.items
    (left c.read_in_parentheses.new.tokens)
    (ap (λ (m : Mark). token.Mark m ∷ left c.args.tokens.now) c.in-Open.is) c.read_in_parentheses.ensures.says

pub read_marked-returns-in-OpenBracket-clause-says : goal.read_marked-returns-in-OpenBracket-clause-says
read_marked-returns-in-OpenBracket-clause-says t c =
    read_from c.read_list.result c.read_list.new.types.items (left c.read_list.new.tokens)
    (ap (λ (m : Mark). token.Mark m ∷ left c.args.tokens.now) c.in-OpenBracket.is) c.read_list.ensures.says

pub read_marked-returns-in-Map-clause-says : goal.read_marked-returns-in-Map-clause-says
read_marked-returns-in-Map-clause-says t c =
    read_from c.read_map.result c.read_map.new.types.items (left c.read_map.new.tokens)
    (ap (λ (m : Mark). token.Mark m ∷ left c.args.tokens.now) c.in-Map.is) c.read_map.ensures.says

pub read_marked-returns-in-Struct-clause-says : goal.read_marked-returns-in-Struct-clause-says
read_marked-returns-in-Struct-clause-says t c =
    read_from c.read_struct.result c.read_struct.new.types.items (left c.read_struct.new.tokens)
    (ap (λ (m : Mark). token.Mark m ∷ left c.args.tokens.now) c.in-Struct.is) c.read_struct.ensures.says

pub read_marked-returns-in-Interface-clause-says : goal.read_marked-returns-in-Interface-clause-says
read_marked-returns-in-Interface-clause-says t c =
    read_from c.read_interface.result c.read_interface.new.types.items (left c.read_interface.new.tokens)
    (ap (λ (m : Mark). token.Mark m ∷ left c.args.tokens.now) c.in-Interface.is) c.read_interface.ensures.says

pub read_marked-returns-in-Func-clause-says : goal.read_marked-returns-in-Func-clause-says
read_marked-returns-in-Func-clause-says t c =
    read_from c.read_function.result c.read_function.new.types.items (left c.read_function.new.tokens)
    (ap (λ (m : Mark). token.Mark m ∷ left c.args.tokens.now) c.in-Func.is) c.read_function.ensures.says

pub read_marked-returns-in-Chan-clause-says : goal.read_marked-returns-in-Chan-clause-says
read_marked-returns-in-Chan-clause-says t c =
    read_from c.read_channel.result c.read_channel.new.types.items (left c.read_channel.new.tokens)
    (ap (λ (m : Mark). token.Mark m ∷ left c.args.tokens.now) c.in-Chan.is) c.read_channel.ensures.says

pub read_marked-returns-in-Arrow-clause-says : goal.read_marked-returns-in-Arrow-clause-says
read_marked-returns-in-Arrow-clause-says t c =
    read_from c.read_receiver.result c.read_receiver.new.types.items (left c.read_receiver.new.tokens)
    (ap (λ (m : Mark). token.Mark m ∷ left c.args.tokens.now) c.in-Arrow.is) c.read_receiver.ensures.says

-- ---- parts

pub read_pointer-returns-clause-says : goal.read_pointer-returns-clause-says
read_pointer-returns-clause-says t c =
    says_pointer (added _ _ _ _ c.in_ok-add.ensures.place c.in_ok-add.ensures.added) refl
    (says_then c.in_ok-of.ensures.says c.in_ok-add.ensures.grown)

pub read_pointer-returns-clause-grown : goal.read_pointer-returns-clause-grown
read_pointer-returns-clause-grown t c = grown_then _ _ _ c.in_ok-of.ensures.grown c.in_ok-add.ensures.grown

pub read_in_parentheses-returns-clause-says : goal.read_in_parentheses-returns-clause-says
read_in_parentheses-returns-clause-says t c = in_parentheses refl c.in_ok-place.ensures.says c.in_ok-take.ensures

pub read_list-returns-then-takes-clause-says : goal.read_list-returns-then-takes-clause-says
read_list-returns-then-takes-clause-says t c =
    says_slice (added _ _ _ _ c.in_ok-add.ensures.place c.in_ok-add.ensures.added) refl
    (c.takes.ensures.taken c.if-takes.true) (says_then c.in_ok-elem.ensures.says c.in_ok-add.ensures.grown)

pub read_list-returns-then-takes-clause-grown : goal.read_list-returns-then-takes-clause-grown
read_list-returns-then-takes-clause-grown t c = grown_then _ _ _ c.in_ok-elem.ensures.grown c.in_ok-add.ensures.grown

pub read_list-returns-clause-says : goal.read_list-returns-clause-says
read_list-returns-clause-says t c =
    says_array (added _ _ _ _ c.in_ok-add-2.ensures.place c.in_ok-add-2.ensures.added) refl
    (sym (c.takes.ensures.stays c.if-takes.false) ∙ c.in_ok-len.ensures) c.in_ok-take.ensures
    (says_then c.in_ok-elem-2.ensures.says c.in_ok-add-2.ensures.grown)

pub read_list-returns-clause-grown : goal.read_list-returns-clause-grown
read_list-returns-clause-grown t c = grown_then _ _ _ c.in_ok-elem-2.ensures.grown c.in_ok-add-2.ensures.grown

pub read_map-returns-clause-says : goal.read_map-returns-clause-says
read_map-returns-clause-says t c =
    says_map (added _ _ _ _ c.in_ok-add.ensures.place c.in_ok-add.ensures.added) refl c.in_ok-take.ensures
    (says_then c.in_ok-key.ensures.says (grown_then _ _ _ c.in_ok-elem.ensures.grown c.in_ok-add.ensures.grown))
    c.in_ok-take-2.ensures (says_then c.in_ok-elem.ensures.says c.in_ok-add.ensures.grown)

pub read_map-returns-clause-grown : goal.read_map-returns-clause-grown
read_map-returns-clause-grown t c =
    grown_then _ _ _ c.in_ok-key.ensures.grown (grown_then _ _ _ c.in_ok-elem.ensures.grown c.in_ok-add.ensures.grown)

-- ---- channels and functions

pub read_channel-returns-clause-says : goal.read_channel-returns-clause-says
read_channel-returns-clause-says t c =
    says_channel (added _ _ _ _ c.in_ok-add.ensures.place c.in_ok-add.ensures.added)
    (channel_begun c.takes.result _ _ c.takes.ensures.taken c.takes.ensures.stays)
    (says_then c.in_ok-read_type.ensures.says c.in_ok-add.ensures.grown)

pub read_channel-returns-clause-grown : goal.read_channel-returns-clause-grown
read_channel-returns-clause-grown t c =
    grown_then _ _ _ c.in_ok-read_type.ensures.grown c.in_ok-add.ensures.grown

pub read_receiver-returns-clause-says : goal.read_receiver-returns-clause-says
read_receiver-returns-clause-says t c =
    says_channel (added _ _ _ _ c.in_ok-add.ensures.place c.in_ok-add.ensures.added)
    (only_receives refl c.in_ok-take.ensures)
    (says_then c.in_ok-read_type.ensures.says c.in_ok-add.ensures.grown)

pub read_receiver-returns-clause-grown : goal.read_receiver-returns-clause-grown
read_receiver-returns-clause-grown t c =
    grown_then _ _ _ c.in_ok-read_type.ensures.grown c.in_ok-add.ensures.grown

pub read_function-returns-clause-says : goal.read_function-returns-clause-says
read_function-returns-clause-says t c =
    says_function (added _ _ _ _ c.in_ok-add.ensures.place c.in_ok-add.ensures.added) refl c.in_ok-take.ensures
    c.in_ok-pass_brackets.ensures (results_then c.in_ok-read_results.ensures.says c.in_ok-add.ensures.grown)

pub read_function-returns-clause-grown : goal.read_function-returns-clause-grown
read_function-returns-clause-grown t c =
    grown_then _ _ _ c.in_ok-read_results.ensures.grown c.in_ok-add.ensures.grown

pub read_results-returns-then-takes-clause-says : goal.read_results-returns-then-takes-clause-says
read_results-returns-then-takes-clause-says t c =
    in_brackets (c.takes.ensures.taken c.if-takes.true) c.in_ok-pass_brackets.ensures

pub read_results-returns-then-takes-clause-grown : goal.read_results-returns-then-takes-clause-grown
read_results-returns-then-takes-clause-grown t c = grown_same c.args.types.now.items

pub read_results-returns-then-not-begins_type-clause-says : goal.read_results-returns-then-not-begins_type-clause-says
read_results-returns-then-not-begins_type-clause-says t c = no_results (c.takes.ensures.stays c.if-takes.false)

pub read_results-returns-then-not-begins_type-clause-grown : goal.read_results-returns-then-not-begins_type-clause-grown
read_results-returns-then-not-begins_type-clause-grown t c = grown_same c.args.types.now.items

pub read_results-returns-clause-says : goal.read_results-returns-clause-says
read_results-returns-clause-says t c =
    results_from (c.takes.ensures.stays c.if-takes.false) (one_result c.in_ok-read_type.ensures.says)

-- ---- structs

pub read_struct-returns-clause-says : goal.read_struct-returns-clause-says
read_struct-returns-clause-says t c =
    says_struct (added _ _ _ _ c.in_ok-add.ensures.place c.in_ok-add.ensures.added) refl c.in_ok-take.ensures
    (fields_then c.in_ok-read_fields.ensures.says c.in_ok-add.ensures.grown) refl

pub read_struct-returns-clause-grown : goal.read_struct-returns-clause-grown
read_struct-returns-clause-grown t c = grown_then _ _ _ c.in_ok-read_fields.ensures.grown c.in_ok-add.ensures.grown

pub read_fields-lines-init : goal.read_fields-lines-init
read_fields-lines-init t c = record { says = rw c.requires no_fields; grown = grown_same c.args.types.now.items }

pub read_fields-lines-preserved : goal.read_fields-lines-preserved
read_fields-lines-preserved t c =
    let items : c.push.new.self.items ≡ c.lines.fields.items ++ c.in_ok-field.field ∷ [] = grind arith in
    record {
      says = rw items (one_more_line c.lines.invariant.says (c.lines-test.ensures.stays refl)
          c.in_ok-field.ensures.says c.in_ok-field.ensures.grown);
      grown = grown_then _ _ _ c.lines.invariant.grown c.in_ok-field.ensures.grown;
    }

pub read_fields-lines-smaller : goal.read_fields-lines-smaller
read_fields-lines-smaller t c =
    omega (arith, field_shorter c.in_ok-field.ensures.says, ap length (c.lines-test.ensures.stays refl))

pub read_fields-returns-clause-says : goal.read_fields-returns-clause-says
read_fields-returns-clause-says t c =
    subst (λ (l : List Token). SaysFields c.lines.types.items c.lines.fields.items (left c.args.tokens.now) l)
    (c.lines-test.ensures.taken refl) c.lines.invariant.says

pub read_field-returns-clause-says : goal.read_field-returns-clause-says
read_field-returns-clause-says t c =
    says_field c.in_ok-names.ensures c.in_ok-of.ensures.says c.pass_tag.ensures c.in_ok-take_stop.ensures
