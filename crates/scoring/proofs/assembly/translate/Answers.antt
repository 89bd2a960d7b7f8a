use Rattle.std.proofs.Common.{◌≡◌, ℕ, List, length, Result, sym, ap, ◌∙◌}
use Rattle.refusal.specs.declared.Refusal.{Refusal}
use Rattle.pages.specs.Page.{gathering}
use Rattle.pages.specs.Program.{placing}
use Rattle.scoring.specs.Assembly.{program_of, labels_then, words_then}
use Rattle.scoring.proofs.PlacedLaws.{same_program, program_by, page_by, size_by, labels_by, words_by}
use Rattle.scoring.proofs.assembly.translate.Goals as goal

pub returns : goal.returns
returns c =
    let bytes = c.args.text.now in
    let slots = c.args.labels.now in
    let words = c.args.words.now in
    let g = gathering bytes (length slots) in
    let names = c.in_ok-gathered.ensures in
    let put = c.place.ensures in
    let left = c.gather.new.slots in
    let p = placing bytes left (length words) in
    let same : program_of bytes (length slots) (length words) ≡ p = same_program bytes slots left (length words) c.gather.auto.slots _ names.answer names.slots in
    record {
      program = program_by words _ p _ _ put.answer put.words same;
      left = record {
        labels = labels_by g p slots left _ put.slots names.slots c.gather.auto.slots
            ∙ ap (λ (q : Result (List ℕ) Refusal). labels_then g q slots) (sym same);
        words = words_by g _ p words _ names.answer put.words ∙ ap (λ (q : Result (List ℕ) Refusal). words_then g q words) (sym same);
      };
      page = page_by words _ bytes left p _ put.answer put.words put.program;
      size = size_by words _ p _ put.answer put.words;
    }
