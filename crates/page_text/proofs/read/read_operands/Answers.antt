use Rattle.std.proofs.Common.{rules, ap, ◌∙◌, sym}
use Rattle.page_text.specs.Grammar.{rest}
use Rattle.page_text.specs.Forms.{on_two, on_three}
use Rattle.page_text.specs.Sayings.{one_word, operands}
use Rattle.page_text.proofs.RegisterLaws.{two_registers, three_refused, three_registers}
use Rattle.page_text.proofs.read.read_operands.Goals as goal

pub returns-in_ok-x-in-Two : goal.returns-in_ok-x-in-Two
returns-in_ok-x-in-Two c =
    let ss = rest c.args.tokens.now in
    let ts = rest c.registers.new.tokens in
    let read = two_registers ss ts c.in_ok-x-in-Two.field-0 (λ x y ss. one_word (on_two c.in-Two.form x y) ss) _ _ (search rules) c.in_ok-x-in-Two.ensures in
    c.one_word-in-Two.ensures ∙ (ap (λ i. one_word i ts) c.instruction-in-Two.ensures ∙ (read ∙ ap (λ f. operands f ss) (sym c.in-Two.is)))

pub returns-in_err-x-in-Three : goal.returns-in_err-x-in-Three
returns-in_err-x-in-Three c =
    let refused = three_refused (rest c.args.tokens.now) (λ x y z ss. one_word (on_three c.in-Three.form x y z) ss) _ c.in_err-x-in-Three.ensures in
    search rules

pub returns-in_ok-x-in-Three : goal.returns-in_ok-x-in-Three
returns-in_ok-x-in-Three c =
    let ss = rest c.args.tokens.now in
    let ts = rest c.registers-in-Three.new.tokens in
    let read = three_registers ss ts c.in_ok-x-in-Three.field-0 (λ x y z ss. one_word (on_three c.in-Three.form x y z) ss) _ _ _ (search rules) c.in_ok-x-in-Three.ensures in
    c.one_word-in-Three.ensures ∙ (ap (λ i. one_word i ts) c.instruction-in-Three.ensures ∙ (read ∙ ap (λ f. operands f ss) (sym c.in-Three.is)))
