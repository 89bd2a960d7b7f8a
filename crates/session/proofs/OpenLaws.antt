use Rattle.std.proofs.Common.{◌≡◌, ℕ, Bool, true, false, cond, eqb, List, [], ◌∷◌, Some, Ok, Err, Option, Result, sym, refl, ap, ◌∙◌}
use Rattle.refusal.specs.declared.Refusal.{Refusal}
use Rattle.processor.specs.declared.Side.TheVariants.{Memory}
use Rattle.processor.specs.Views.{Cell, View, Fault, Places, answer, probe, probed, exchange, yielded, put_if, put_into}
use Rattle.tape.specs.declared.cursor.CellWord.{CellWord}
use Rattle.tape.specs.Puts.{puts}
use Rattle.tape.specs.Checks.{checked}
use Rattle.session.specs.Opens.{then, probe_all, write_all, put_all, probes_told, tape_told, loaded, probes_written, tape_written}

-- a probed cell stays so under a write
still_cell : (o : Option Cell) (c : Bool) (a w : ℕ) → probed (yielded o Memory a) ≡ Ok tt → probed (yielded (cond c (Some (record { word = w; unlocked = true })) o) Memory a) ≡ Ok tt
still_cell o true a w h = refl
still_cell o false a w h = h

first_ok : (o x : Result Unit Fault) → then o x ≡ Ok tt → (o ≡ Ok tt) × (x ≡ Ok tt)
first_ok (Ok u) x h = (refl, h)
first_ok (Err f) x h = cc

still_all : (v : View) (a w : ℕ) (ps : List CellWord) → probe_all v ps ≡ Ok tt → probe_all (put_into Memory v a w) ps ≡ Ok tt
still_all v a w [] h = refl
still_all v a w (p ∷ ps) h =
    let q = first_ok (probe v Memory p.at) (probe_all v ps) h in
    let s : probe (put_into Memory v a w) Memory p.at ≡ Ok tt = still_cell (v.memory p.at) (eqb p.at a) p.at w q.0 in
    ap (λ (o : Result Unit Fault). then o (probe_all (put_into Memory v a w) ps)) s ∙ still_all v a w ps q.1

written_ok : (v : View) (a w : ℕ) (o : Result ℕ Fault) → probed o ≡ Ok tt → put_if o Memory v a w ≡ put_into Memory v a w
written_ok v a w (Ok x) h = refl
written_ok v a w (Err f) h = cc

-- where every probe is done, every write is
writes_put : (v : View) (ps : List CellWord) → probe_all v ps ≡ Ok tt → write_all v ps ≡ put_all v ps
writes_put v [] h = refl
writes_put v (p ∷ ps) h =
    let q = first_ok (probe v Memory p.at) (probe_all v ps) h in
    ap (λ (x : View). write_all x ps) (written_ok v p.at p.word (exchange v Memory p.at) q.0)
    ∙ writes_put (put_into Memory v p.at p.word) ps (still_all v p.at p.word ps q.1)

-- a tape that is accepted and whose addresses are all probed is put into the memory
answer_ok : (p : Places) (o : Result Unit Fault) → Ok tt ≡ answer p o → o ≡ Ok tt
answer_ok p (Ok u) h = refl
answer_ok p (Err f) h = cc

pub load_done : (p : Places) (v w : View) (tape : List ℕ) → Ok tt ≡ checked tape → Ok tt ≡ answer p (probe_all v (puts tape)) → w ≡ write_all v (puts tape) → loaded p v tape ≡ Ok w
load_done p v w tape a b e =
    let q = answer_ok p (probe_all v (puts tape)) b in
    ap (tape_told p v tape) (sym a) ∙ (ap (probes_told p v (puts tape)) q ∙ ap (λ (x : View). Ok x) (sym (e ∙ writes_put v (puts tape) q)))

-- so a tape is put into the memory by writes
by_probes : (p : Places) (v : View) (ps : List CellWord) (o : Result Unit Fault) → probe_all v ps ≡ o → probes_told p v ps o ≡ probes_written p v ps o
by_probes p v ps (Ok u) e = ap (λ (x : View). Ok x) (sym (writes_put v ps e))
by_probes p v ps (Err f) e = refl

by_tape : (p : Places) (v : View) (tape : List ℕ) (o : Result Unit Refusal) → tape_told p v tape o ≡ tape_written p v tape o
by_tape p v tape (Ok u) = by_probes p v (puts tape) (probe_all v (puts tape)) refl
by_tape p v tape (Err e) = refl

pub loads_write : (p : Places) (v : View) (tape : List ℕ) → loaded p v tape ≡ tape_written p v tape (checked tape)
loads_write p v tape = by_tape p v tape (checked tape)
