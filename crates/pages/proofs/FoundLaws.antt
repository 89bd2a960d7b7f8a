use Rattle.std.proofs.Common.{◌≡◌, ℕ, ◌<◌, ◌≤◌, Bool, true, false, cond, leb, List, [], length, take, Some, None, Ok, Err, Result, sym, refl, ap, ◌∙◌, arith}
use Rattle.std.proofs.lemmas.Bool.{leb-true, le-leb, lt-leb, cond-true, cond-false}
use Rattle.refusal.specs.declared.Cause.TheVariants.{NotGathered, TextTooLong, TooManyWords}
use Rattle.refusal.specs.declared.Refusal.{Refusal}
use Rattle.refusal.specs.Numbers.{refused}
use Rattle.pages.specs.declared.check.Progress.{Progress}
use Rattle.pages.specs.declared.label.Label.{Label}
use Rattle.pages.specs.Labels.{begins_with}
use Rattle.pages.specs.Page.{Gathering, gathered, gathers, page, gathering}
use Rattle.pages.specs.Program.{held, GatheredOn, places, placing_in, placing_by, placing}
use Rattle.pages.proofs.HeldLaws.{begins_holds}

-- labels that were found in slots
pub record Found (slots : List Label) (p : Progress) (w : Result Gathering Refusal) : Type 0 where
  pub all : w ≡ Ok (gathered (take p.labels slots) p.size)
  pub within : p.labels ≤ length slots
  pub begin : begins_with (take p.labels slots) slots ≡ true

found_by : (slots : List Label) (b : Bool) (g : Gathering) (p : Progress) → begins_with g.labels slots ≡ b → cond b (Some (record { labels = length g.labels; size = g.size })) None ≡ Some p → Found slots p (Ok g)
found_by slots true g p h e =
    let d : record { labels = length g.labels; size = g.size } ≡ p = cc in
    let k = begins_holds g.labels slots h in
    let n : length g.labels ≡ p.labels = ap (λ (x : Progress). x.labels) d in
    let s : g.size ≡ p.size = ap (λ (x : Progress). x.size) d in
    let t : take p.labels slots ≡ g.labels = ap (λ (m : ℕ). take m slots) (sym n) ∙ k.0 in
    record { all = rw (t, ← s); within = omega (arith, n, k.1); begin = rw t h }
found_by slots false g p h e = absurd cc

pub found_all : (slots : List Label) (w : Result Gathering Refusal) (p : Progress) → Some p ≡ held slots w → Found slots p w
found_all slots (Ok g) p e = found_by slots (begins_with g.labels slots) g p refl (sym e)
found_all slots (Err c) p e = absurd cc

not_found_by : (bytes : List ℕ) (slots : List Label) (words : ℕ) (b : Bool) (g : Gathering) (p : Progress) → None ≡ cond b (Some p) None → cond b (placing_in bytes words g) (Err (refused NotGathered 0)) ≡ Err (refused NotGathered 0)
not_found_by bytes slots words true g p e = absurd cc
not_found_by bytes slots words false g p e = refl

pub not_found : (bytes : List ℕ) (slots : List Label) (words : ℕ) (w : Result Gathering Refusal) → None ≡ held slots w → placing_by bytes slots words w ≡ Err (refused NotGathered 0)
not_found bytes slots words (Ok g) e = not_found_by bytes slots words (begins_with g.labels slots) g _ e
not_found bytes slots words (Err c) e = refl

-- a text that was gathered is short enough
accepted : (b : Bool) (x : Result Gathering Refusal) (g : Gathering) → cond b x (Err (refused TextTooLong 0)) ≡ Ok g → (b ≡ true) × (x ≡ Ok g)
accepted true x g e = (refl, e)
accepted false x g e = absurd cc

module _ (bytes : List ℕ) (slots : List Label) (p : Progress) (words : ℕ) (f : Found slots p (gathering bytes (length slots))) where
  abbrev all : Gathering
  all = gathered (take p.labels slots) p.size

  found_placing : placing bytes slots words ≡ placing_in bytes words all
  found_placing =
      ap (placing_by bytes slots words) f.all
      ∙ cond-true (begins_with (take p.labels slots) slots) (placing_in bytes words all) (Err (refused NotGathered 0)) f.begin

  whole : (leb (length bytes) 65535 ≡ true) × (gathers (length slots) (page bytes) [] 0 1 ≡ Ok all)
  whole = accepted (leb (length bytes) 65535) (gathers (length slots) (page bytes) [] 0 1) all f.all

  pub found_short : length bytes ≤ 65535
  found_short = leb-true (length bytes) 65535 whole.0

  pub found_on : p.size ≤ words → GatheredOn (page bytes) (take p.labels slots) 0 0 words 1
  found_on h = record { slots = length slots; size = p.size; on = whole.1; room = h; names = omega arith; before = tt }

  -- room enough, or not
  pub found_places : p.size ≤ words → placing bytes slots words ≡ places (take p.labels slots) (page bytes) 0 [] 1
  found_places h = found_placing ∙ cond-true (leb p.size words) _ (Err (refused TooManyWords 0)) (le-leb p.size words h)

  pub found_full : words < p.size → placing bytes slots words ≡ Err (refused TooManyWords 0)
  found_full h = found_placing ∙ cond-false (leb p.size words) (places (take p.labels slots) (page bytes) 0 [] 1) _ (lt-leb p.size words h)
