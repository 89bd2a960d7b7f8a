use Rattle.std.proofs.Common.{◌≡◌, ℕ, zero, suc, ◌<◌, Bool, true, false, cond, ltb, List, [], ◌∷◌, length, get_or, IfOk, None, Ok, Err, Result, sym, refl, ap, ◌∙◌, arith}
use mathlib.Core.Path.{fun_ext}
use Rattle.std.proofs.lemmas.Bool.{ltb-true}
use Rattle.refusal.specs.declared.Refusal.{Refusal}
use Rattle.stores.specs.Cells as store
use Rattle.processor.specs.declared.Side.TheVariants.{Memory, Screen}
use Rattle.processor.specs.Views.{View, Fault, absent, closed, unassigned, Places, told, cell, cells, keys}
use Rattle.processor.specs.Rules.{Rules, State, state}
use Rattle.tape.specs.declared.cursor.CellWord.{CellWord}
use Rattle.tape.specs.Checks.{checked}
use Rattle.tape.specs.Puts.{puts}
use Rattle.session.specs.declared.state.Session.{Session}
use Rattle.session.specs.Snapshots.{Snapshot, snapshot}
use Rattle.session.specs.Opens.{probe_all, probes_told, tape_told, loaded, load_answer}
use Rattle.session_log.specs.declared.line.Line.{Line}
use Rattle.session_log.specs.Plain.{fresh, after}
use Rattle.session_log.specs.Kept.{depth_after, PageLine, LogKept}
use Rattle.session_log.specs.Logs.{Logged, opening, opening_answer}
use Rattle.session_log.specs.Alike.{AlikeCells, AlikeKeys, Alike, Stores, seen, SameState, Agree, Left, LeftBy, Agreed, AlikeAgree}

cond_same : {X : Type 0} (b : Bool) (x y z : X) → (b ≡ true → x ≡ y) → cond b x z ≡ cond b y z
cond_same true x y z h = h refl
cond_same false x y z h = refl

cells_same : (m n : store.Cells) (o q : store.Locks) → AlikeCells m o n q → cells m o ≡ cells n q
cells_same m n o q h = fun_ext (λ a. cond_same (ltb a 65536) (cell (m a) (o a)) (cell (n a) (q a)) None (λ e. h a (ltb-true a 65536 e)))

keys_same : (k l : store.Cells) → AlikeKeys k l → keys k ≡ keys l
keys_same k l h = fun_ext (λ c. cond_same (ltb c 65536) (k c) (l c) None (λ e. h c (ltb-true c 65536 e)))

-- alike stores are seen as one
seen_same : (x y : Stores) → Alike x y → seen x ≡ seen y
seen_same x y h =
    let m = cells_same x.memory y.memory x.memory_open y.memory_open h.memory in
    let s = cells_same x.screen y.screen x.screen_open y.screen_open h.screen in
    let k = keys_same x.keys y.keys h.keys in
    cc

-- refused alike, but for the place
abbrev SameAnswer : Result Unit Refusal → Result Unit Refusal → Type 0
SameAnswer (Ok u) (Ok v) = Unit {0}
SameAnswer (Ok u) (Err e) = ⊥
SameAnswer (Err e) (Ok v) = ⊥
SameAnswer (Err e) (Err f) = e.cause ≡ f.cause

told_same : (p q : Places) (f : Fault) → (told p f).cause ≡ (told q f).cause
told_same p q (absent Memory a) = refl
told_same p q (absent Screen a) = refl
told_same p q (closed Memory a) = refl
told_same p q (closed Screen a) = refl
told_same p q (unassigned a) = refl

probes_same : (p q : Places) (v : View) (ps : List CellWord) (o : Result Unit Fault) → SameAnswer (load_answer (probes_told p v ps o)) (load_answer (probes_told q v ps o))
probes_same p q v ps (Ok u) = tt
probes_same p q v ps (Err f) = told_same p q f

tape_same : (p q : Places) (v : View) (tape : List ℕ) (o : Result Unit Refusal) → SameAnswer (load_answer (tape_told p v tape o)) (load_answer (tape_told q v tape o))
tape_same p q v tape (Ok u) = probes_same p q v (puts tape) (probe_all v (puts tape))
tape_same p q v tape (Err e) = refl

module _ {P : Type 0} (r : Rules P) where
  page_line : (p : Places) (j : ℕ) (w : State P) (c d : ℕ) (ls : List (Line P)) → LogKept r p j w c d ls → (i : ℕ) (z : Line P) → i < length ls → PageLine r w (get_or ls i z)
  page_line p j w c d [] k i z h = absurd (omega arith)
  page_line p j w c d (l ∷ ls) k zero z h = k.1
  page_line p j w c d (l ∷ ls) k (suc i) z h = page_line p j w l.count (depth_after d l.answer) ls k.2 i z (omega arith)

  -- the page after equally many instructions from equal openings
  same_page : (w u : State P) (c d : ℕ) (s t : State P) → w ≡ u → c ≡ d → after r c w ≡ Ok s → after r d u ≡ Ok t → s ≡ t
  same_page w u c d s t e f a b =
      cc

  same_line : (w u : State P) (x y : Line P) → w ≡ u → x.count ≡ y.count → PageLine r w x → PageLine r u y → SameState r w u x y
  same_line w u x y e f (v, a) (v', b) =
      let q = same_page w u x.count y.count (state x.processor v) (state y.processor v') e f a b in
      let g : v' ≡ v = sym (ap (λ (s : State P). s.view) q) in
      (ap (λ (s : State P). s.processor) q, (v, a, b ∙ ap (λ (z : View). Ok (state y.processor z)) g))

  agree : (p q : Places) (w u : State P) (j k : ℕ) (ls ms ls' ms' : List (Line P)) (d b : Snapshot P) → w ≡ u → Logged r p w j ls ls' d (fresh w) → Logged r q u k ms ms' b (fresh u) → Agree r w u ls' ms' d b
  agree p q w u j k ls ms ls' ms' d b e x y =
      record {
        lines = λ i n z h g f. same_line w u (get_or ls' i z) (get_or ms' n z) e f (page_line p j w 0 0 ls' x.kept i z h) (page_line q k u 0 0 ms' y.kept n z g);
        ends = λ f. same_page w u d.count b.count d.state b.state e f x.page y.page;
      }

  module _ (p q : Places) (v v' : View) (tape : List ℕ) (w u : State P) (j k : ℕ) (ls ms : List (Line P)) (x y : Left P) (same : v ≡ v') (open_same : w ≡ u) where
    abbrev Log : Places → State P → ℕ → List (Line P) → Left P → Result (Session P) Refusal → Type 0
    Log p w j ls x a = IfOk a (λ s. Logged r p w j ls x.lines (snapshot s (seen x.stores) x.slots) (fresh w))

    by_answers : (a b : Result (Session P) Refusal) → SameAnswer (opening_answer a) (opening_answer b) → Log p w j ls x a → Log q u k ms y b → Agreed r w u x y a b
    by_answers (Ok s) (Ok t) e f g = agree p q w u j k ls ms x.lines y.lines _ _ open_same f g
    by_answers (Ok s) (Err t) e f g = e
    by_answers (Err s) (Ok t) e f g = e
    by_answers (Err s) (Err t) e f g = e

    agreed : (a b : Result (Session P) Refusal) → opening_answer a ≡ load_answer (loaded p v tape) → opening_answer b ≡ load_answer (loaded q v' tape) → Log p w j ls x a → Log q u k ms y b → Agreed r w u x y a b
    agreed a b e f g h =
        let n : load_answer (loaded q v tape) ≡ opening_answer b = ap (λ (z : View). load_answer (loaded q z tape)) same ∙ sym f in
        by_answers a b (rw (e, ← n) (tape_same p q v tape (checked tape))) g h

-- two logs agree where their stores are alike
pub logs_agree : {P : Type 0} (r : Rules P) (tape : List ℕ) (stack j k : ℕ) (a b : Stores) (ls ms : List (Line P)) (x y : Left P) → LeftBy r tape stack j a ls x → LeftBy r tape stack k b ms y → AlikeAgree r tape stack a b x y
logs_agree r tape stack j k a b ls ms x y f g h =
    let s = seen_same a b h in
    agreed r f.places g.places (seen a) (seen b) tape (opening r stack (seen a) tape) (opening r stack (seen b) tape) j k ls ms x y s (ap (λ (v : View). opening r stack v tape) s)
    x.answer y.answer f.opened g.opened f.log g.log
