use Rattle.std.proofs.Common.{◌≡◌, ℕ, ◌%◌, ◌≤◌, Bool, true, false, cond, leb, List, [], ◌∷◌, map, length, take, Ok, Err, sum_by, Result, sym, refl, ap, ◌∙◌, subst, zero-add, arith}
use Rattle.std.specs.List.{AllByRecursion}
use Rattle.std.proofs.lemmas.Bool.{leb-true}
use Rattle.refusal.specs.declared.Cause.TheVariants.{TextTooLong, TooManyWords, NotGathered}
use Rattle.refusal.specs.declared.Refusal.{Refusal}
use Rattle.refusal.specs.Numbers.{refused}
use Rattle.page_tokens.specs.Lines.{lines}
use Rattle.page_text.specs.Sayings.{Reading, line_read}
use Rattle.page_text.specs.Sound.{Sound}
use Rattle.page_text.proofs.SoundLaws.{sound_line}
use Rattle.pages.specs.declared.label.Label.{Label}
use Rattle.pages.specs.Labels.{begins_with}
use Rattle.pages.specs.Page.{Gathering, gathers, page, gathering}
use Rattle.pages.specs.Program.{GatheredOn, places, placing_in, placing_by, placing, line_size}
use Rattle.pages.specs.Laws.{address, line, NamesStand, Stands, ProgramStands, NamesIfOk, ProgramIfOk}
use Rattle.pages.proofs.HeldLaws.{begins_holds}
use Rattle.pages.proofs.NameLaws.{names_stand}
use Rattle.pages.proofs.ProgramLaws.{placed_all}

-- what each line of a page says is sound
sound_lines : (ls : List (List ℕ)) → AllByRecursion (λ r. Sound r.saying) (map line_read ls)
sound_lines [] = tt
sound_lines (l ∷ ls) = (sound_line l, sound_lines ls)

sound_page : (bytes : List ℕ) → AllByRecursion (λ r. Sound r.saying) (page bytes)
unfolding page
sound_page bytes = sound_lines (lines bytes)

-- the names of a gathered text
stand_from : (n : ℕ) (rs : List Reading) (g : Gathering) → gathers n rs [] 0 1 ≡ Ok g → NamesStand rs g.labels
stand_from n rs g e j m h d = let z = names_stand n rs [] 0 1 g e j m h d in (z.0, z.1, z.2 ∙ ap (λ (k : ℕ). k % 65536) (zero-add (address rs j)))

names_by : (bytes : List ℕ) (b : Bool) (x : Result Gathering Refusal) → ((g : Gathering) → x ≡ Ok g → NamesStand (page bytes) g.labels) → NamesIfOk bytes (cond b x (Err (refused TextTooLong 0)))
names_by bytes true (Ok g) f = f g refl
names_by bytes true (Err e) f = tt
names_by bytes false x f = tt

pub names_hold : (bytes : List ℕ) (n : ℕ) → NamesIfOk bytes (gathering bytes n)
names_hold bytes n = names_by bytes (leb (length bytes) 65535) (gathers n (page bytes) [] 0 1) (stand_from n (page bytes))

-- the words of a placed text
module _ (bytes : List ℕ) (slots : List Label) (n words : ℕ) where
  program_from : (g : Gathering) (ws : List ℕ) → gathers n (page bytes) [] 0 1 ≡ Ok g → g.size ≤ words → places g.labels (page bytes) 0 [] 1 ≡ Ok ws → ProgramStands (page bytes) g.labels ws
  program_from g ws e h p =
      let on : GatheredOn (page bytes) g.labels 0 0 words 1 = record { slots = n; size = g.size; on = e; room = h; names = omega arith; before = tt } in
      let z = placed_all (page bytes) g.labels 0 0 words 1 on [] ws refl (sound_page bytes) p in
      record {
        size = z.size ∙ zero-add (sum_by line_size (page bytes));
        few = z.few (omega arith);
        stands = λ j l. subst (λ (a : ℕ). Stands g.labels ws a (line (page bytes) j).saying) (zero-add (address (page bytes) j)) (z.stands j l);
      }

  in_words : (b : Bool) (g : Gathering) → leb g.size words ≡ b → begins_with g.labels slots ≡ true → gathers n (page bytes) [] 0 1 ≡ Ok g
      → ProgramIfOk bytes slots (cond b (places g.labels (page bytes) 0 [] 1) (Err (refused TooManyWords 0)))
  in_words true g t h e = go (places g.labels (page bytes) 0 [] 1) refl
    where
      go : (x : Result (List ℕ) Refusal) → places g.labels (page bytes) 0 [] 1 ≡ x → ProgramIfOk bytes slots x
      go (Ok ws) p =
          let held : take (length g.labels) slots ≡ g.labels = (begins_holds g.labels slots h).0 in (
            length g.labels,
            subst (λ (ls : List Label). ProgramStands (page bytes) ls ws) (sym held) (program_from g ws e (leb-true g.size words t) p),
            subst (λ (ls : List Label). NamesStand (page bytes) ls) (sym held) (stand_from n (page bytes) g e),
          )
      go (Err c) p = tt
  in_words false g t h e = tt

  by_labels : (b : Bool) (g : Gathering) → begins_with g.labels slots ≡ b → gathers n (page bytes) [] 0 1 ≡ Ok g → ProgramIfOk bytes slots (cond b (placing_in bytes words g) (Err (refused NotGathered 0)))
  by_labels true g h e = in_words (leb g.size words) g refl h e
  by_labels false g h e = tt

  by_gathering : (b : Bool) (x : Result Gathering Refusal) → gathers n (page bytes) [] 0 1 ≡ x → ProgramIfOk bytes slots (placing_by bytes slots words (cond b x (Err (refused TextTooLong 0))))
  by_gathering true (Ok g) e = by_labels (begins_with g.labels slots) g refl e
  by_gathering true (Err c) e = tt
  by_gathering false x e = tt

pub program_holds : (bytes : List ℕ) (slots : List Label) (words : ℕ) → ProgramIfOk bytes slots (placing bytes slots words)
program_holds bytes slots words = by_gathering bytes slots (length slots) words (leb (length bytes) 65535) (gathers (length slots) (page bytes) [] 0 1) refl
