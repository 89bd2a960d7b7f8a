use Rattle.std.proofs.Common.{◌≡◌, ℕ, ◌≤◌, true, List, ◌++◌, length, take, drop, replicate, IfOk, Ok, Err, Result, sym, refl, ap, ◌∙◌, subst, arith, MatchResult}
use Rattle.std.proofs.lemmas.List.{take_at, length-append}
use Rattle.std.proofs.lemmas.Bool.{cond-true}
use Rattle.refusal.specs.declared.Refusal.{Refusal}
use Rattle.refusal.specs.declared.Cause.TheVariants.{NotGathered}
use Rattle.refusal.specs.Numbers.{refused}
use Rattle.pages.specs.declared.label.Label.{Label}
use Rattle.pages.specs.declared.gathering.Gathered.{Gathered}
use Rattle.pages.specs.declared.placing.Placed.{Placed}
use Rattle.pages.specs.Labels.{no_label, begins_with}
use Rattle.pages.specs.Page.{Gathering, gathering, gather_answer, slots_after}
use Rattle.pages.specs.Program.{placing_in, placing_by, placing, place_answer, words_after, slots_left}
use Rattle.pages.specs.Laws.{ProgramIfOk}
use Rattle.pages.proofs.HeldLaws.{begins_itself}
use Rattle.scoring.specs.Assembly.{placed_from, program_of, labels_then, words_then, PagePlaced}

-- slots begin with the labels that were put into the first ones
begins_put : (ls more : List Label) → begins_with ls (ls ++ more) ≡ true
begins_put ls more = subst (λ (xs : List Label). begins_with xs (ls ++ more) ≡ true) (take_at ls more (length ls) refl) (begins_itself (length ls) (ls ++ more))

module _ (bytes : List ℕ) (slots left : List Label) (words : ℕ) (same : length left ≡ length slots) where
  follows : (g : Result Gathering Refusal) (x : Gathered) → Ok x ≡ gather_answer g → gathering bytes (length slots) ≡ g → left ≡ slots_after g slots
      → placing bytes left words ≡ placed_from bytes words g
  follows (Ok g) x ok e l =
      let by : gathering bytes (length left) ≡ Ok g = ap (gathering bytes) same ∙ e in
      let begun : begins_with g.labels left ≡ true = rw l (begins_put g.labels (drop (length g.labels) slots)) in
      ap (placing_by bytes left words) by ∙ cond-true (begins_with g.labels left) (placing_in bytes words g) (Err (refused NotGathered 0)) begun
  follows (Err f) x ok e l = cc

  pub same_program : (x : Gathered) → Ok x ≡ gather_answer (gathering bytes (length slots)) → left ≡ slots_after (gathering bytes (length slots)) slots
      → program_of bytes (length slots) words ≡ placing bytes left words
  same_program x ok l = sym (follows (gathering bytes (length slots)) x ok refl l)

-- what a placing leaves, by its program
module _ (words after : List ℕ) where
  first_words : (ws : List ℕ) → after ≡ words_after (Ok ws) words → take (length ws) after ≡ ws
  first_words ws e = ap (take (length ws)) e ∙ take_at ws (drop (length ws) words) (length ws) refl

  pub program_by : (p d : Result (List ℕ) Refusal) (r : Result Placed Refusal) → r ≡ place_answer p → after ≡ words_after p words → d ≡ p
      → MatchResult r (λ x. d ≡ Ok (take x.size after)) (λ e. d ≡ Err e)
  program_by (Ok ws) d r a e is =
      subst (λ (y : Result Placed Refusal). MatchResult y (λ x. d ≡ Ok (take x.size after)) (λ e. d ≡ Err e)) (sym a) (is ∙ ap Ok (sym (first_words ws e)))
  program_by (Err f) d r a e is = subst (λ (y : Result Placed Refusal). MatchResult y (λ x. d ≡ Ok (take x.size after)) (λ e. d ≡ Err e)) (sym a) is

  pub page_by : (bytes : List ℕ) (left : List Label) (p : Result (List ℕ) Refusal) (r : Result Placed Refusal) → r ≡ place_answer p → after ≡ words_after p words
      → ProgramIfOk bytes left p → IfOk r (λ x. PagePlaced bytes (take x.size after))
  page_by bytes left (Ok ws) r a e law =
      subst (λ (y : Result Placed Refusal). IfOk y (λ x. PagePlaced bytes (take x.size after))) (sym a)
      (subst (PagePlaced bytes) (sym (first_words ws e)) (record { labels = take law.0 left; names = law.2; stands = law.1 }))
  page_by bytes left (Err f) r a e law = subst (λ (y : Result Placed Refusal). IfOk y (λ x. PagePlaced bytes (take x.size after))) (sym a) tt

  pub size_by : (p : Result (List ℕ) Refusal) (r : Result Placed Refusal) → r ≡ place_answer p → after ≡ words_after p words → IfOk r (λ x. x.size ≤ length after)
  size_by (Ok ws) r a e =
      let n = ap length e ∙ length-append ws (drop (length ws) words) in
      subst (λ (y : Result Placed Refusal). IfOk y (λ x. x.size ≤ length after)) (sym a) (omega arith)
  size_by (Err f) r a e = subst (λ (y : Result Placed Refusal). IfOk y (λ x. x.size ≤ length after)) (sym a) tt

pub labels_by : (g : Result Gathering Refusal) (p : Result (List ℕ) Refusal) (slots left after : List Label) → after ≡ slots_left p left → left ≡ slots_after g slots
    → length left ≡ length slots → after ≡ labels_then g p slots
labels_by g (Ok ws) slots left after e l n = e ∙ l
labels_by g (Err f) slots left after e l n = e ∙ ap (λ (k : ℕ). replicate k no_label) n

pub words_by : (g : Result Gathering Refusal) (x : Gathered) (p : Result (List ℕ) Refusal) (words after : List ℕ) → Ok x ≡ gather_answer g → after ≡ words_after p words
    → after ≡ words_then g p words
words_by (Ok g) x p words after ok e = e
words_by (Err f) x p words after ok e = cc
