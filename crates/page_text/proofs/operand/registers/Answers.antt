use Rattle.std.proofs.Common.{rules, arith, ◌≡◌, ◌+◌, ◌-◌, sym, ap, ◌∙◌}
use Rattle.std.proofs.lemmas.List.{length-replicate}
use Rattle.page_text.specs.Grammar.{rest, register, with_register, more_registers}
use Rattle.page_text.proofs.RegisterLaws.{left_registers, after, numbers, after_none, first_turn, next_turn, put_register, no_register}
use Rattle.page_text.proofs.operand.registers.Goals as goal
use Rattle.page_text.proofs.operand.registers.Goals.{then-i-gt0+in_ok-expect, else-i-gt0}

pub loop-i-init : goal.loop-i-init
loop-i-init g c = search (rules, after_none, length-replicate)

pub returns-in_err-place : goal.returns-in_err-place
returns-in_err-place g c =
    let i = c.loop-i.i in
    let m = g.row.N - (i + 1) in
    let ss = rest c.loop-i.tokens in
    let ts = rest c.if-i-gt0.tokens in
    let turn : left_registers i (g.row.N - i) ss ≡ with_register (register ts) (more_registers m) =
    elim c.if-i-gt0.branch [
      | then-i-gt0+in_ok-expect w ↦ next_turn i (g.row.N - i) m ss ts (search rules) (omega arith) (search rules)
      | else-i-gt0 w ↦ first_turn i (g.row.N - i) m ss (search rules) (omega arith) ∙ ap (λ t. with_register (register (rest t)) (more_registers m)) (sym w.tokens-is)
    ] in
    let whole = c.loop-i.invariant.2 ∙ (ap (after (numbers i c.loop-i.place-items)) turn ∙ no_register (numbers i c.loop-i.place-items) m ts _ c.in_err-place.ensures) in
    search rules

pub loop-i-preserved : goal.loop-i-preserved
loop-i-preserved g c =
    let i = c.loop-i.i in
    let m = g.row.N - (i + 1) in
    let ss = rest c.loop-i.tokens in
    let ts = rest c.if-i-gt0.tokens in
    let turn : left_registers i (g.row.N - i) ss ≡ with_register (register ts) (more_registers m) =
    elim c.if-i-gt0.branch [
      | then-i-gt0+in_ok-expect w ↦ next_turn i (g.row.N - i) m ss ts (search rules) (omega arith) (search rules)
      | else-i-gt0 w ↦ first_turn i (g.row.N - i) m ss (search rules) (omega arith) ∙ ap (λ t. with_register (register (rest t)) (more_registers m)) (sym w.tokens-is)
    ] in (
      search rules,
      search rules,
      c.loop-i.invariant.2 ∙ (ap (after (numbers i c.loop-i.place-items)) turn ∙ put_register i m c.loop-i.place-items _ ts (rest c.register.new.tokens) (search rules) c.in_ok-place.ensures),
    )
