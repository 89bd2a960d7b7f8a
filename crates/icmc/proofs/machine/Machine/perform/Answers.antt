use Rattle.std.proofs.Common.{◌≡◌, ap, rules}
use Rattle.icmc.specs.Steps.{quiet}
use Rattle.icmc.specs.Calculations.{calculation}
use Rattle.icmc.proofs.Rest.{Rest, rest_calculates}
use Rattle.icmc.proofs.machine.Machine.perform.Goals as goal

pub returns-in_default : goal.returns-in_default
returns-in_default g c =
    let h = c.in_default in
    let i = c.args.instruction in
    let o : Rest i = record { no_nop = h.not-Nop; no_rts = h.not-Rts; no_breakp = h.not-Breakp; no_halt = h.not-Halt; no_clearc = h.not-Clearc; no_setc = h.not-Setc; no_jump = h.not-Jump; no_call = h.not-Call; no_push = h.not-Push; no_pushfr = h.not-PushFr; no_pop = h.not-Pop; no_popfr = h.not-PopFr; no_load = h.not-Load; no_store = h.not-Store; no_loadn = h.not-Loadn; no_loadi = h.not-Loadi; no_storei = h.not-Storei; no_mov = h.not-Mov; no_movfromsp = h.not-MovFromSp; no_movtosp = h.not-MovToSp; no_outchar = h.not-Outchar; no_inchar = h.not-Inchar } in
    let e = rest_calculates i c.args.end c.args.self.now c.args.next (g.B.Bus.view c.args.bus.now) o in
    let p = g.B.Bus.places c.args.bus.now in
    let q : quiet c.calculate.result ≡ quiet (calculation i c.args.self.now c.args.next) = ap quiet c.calculate.ensures in
    search rules
