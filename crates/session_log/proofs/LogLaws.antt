use Rattle.std.proofs.Common.{◌≡◌, ℕ, ◌+◌, ◌<◌, ◌≤◌, List, [], ◌∷◌, ◌++◌, length, get_or, take, drop, set, sym, refl, ap, ◌∙◌, arith}
use Rattle.std.proofs.lemmas.List.{append_assoc, append-nil, take_all, drop-set-lt, drop_more, drop_all, take_more_set}
use Rattle.processor.specs.Views.{Places}
use Rattle.processor.specs.Rules.{Rules}
use Rattle.session.specs.Snapshots.{Snapshot}
use Rattle.session_log.specs.declared.line.Line.{Line}
use Rattle.session_log.specs.Serving.{serves, line_by, log_after, log_lines}

-- one line of a log, met by a loop at index i: ls are the lines as they stand, ms as they were, d and b the session before and after the line
module _ {P : Type 0} (r : Rules P) (p q : Places) (d b : Snapshot P) (ls ms : List (Line P)) (i : ℕ) (z a : Line P) (told : q ≡ p) (h : i < length ls) (k : i < length ms) (same : drop i ls ≡ drop i ms) (after : b ≡ (serves r (get_or ls i z).call d).after) where
  abbrev x : Line P
  x = get_or ls i z

  left : drop i ls ≡ x ∷ drop (i + 1) ls
  left = drop_more ls i z h

  right : drop i ms ≡ get_or ms i z ∷ drop (i + 1) ms
  right = drop_more ms i z k

  rest : drop (i + 1) ls ≡ drop (i + 1) ms
  rest = let e : x ∷ drop (i + 1) ls ≡ get_or ms i z ∷ drop (i + 1) ms = sym left ∙ (same ∙ right) in cc

  here : drop i ms ≡ x ∷ drop (i + 1) ms
  here = sym same ∙ (left ∙ ap (λ (ys : List (Line P)). x ∷ ys) rest)

  pub after_more : (y : Snapshot P) → log_after r (drop i ms) d ≡ y → log_after r (drop (i + 1) ms) b ≡ y
  after_more y whole = rw after (rw here at whole)

  pub lines_more : (ys : List (Line P)) → a ≡ line_by q x (serves r x.call d) → take i ls ++ log_lines r p (drop i ms) d ≡ ys → take (i + 1) (set ls i a) ++ log_lines r p (drop (i + 1) ms) b ≡ ys
  lines_more ys e whole =
      let n : log_lines r p (drop i ms) d ≡ a ∷ log_lines r p (drop (i + 1) ms) b = rw (here, e, told, after) refl in
      rw (take_more_set ls i a h, append_assoc (take i ls) (a ∷ []) (log_lines r p (drop (i + 1) ms) b), ← n) whole

  pub rest_more : drop (i + 1) (set ls i a) ≡ drop (i + 1) ms
  rest_more = drop-set-lt (i + 1) ls i a (omega arith) ∙ rest

module _ {P : Type 0} (r : Rules P) (p : Places) (d : Snapshot P) (ls ms : List (Line P)) (i : ℕ) (h : length ms ≤ i) (k : length ls ≤ i) where
  pub after_all : (y : Snapshot P) → log_after r (drop i ms) d ≡ y → d ≡ y
  after_all y whole = rw (drop_all i ms h) at whole

  pub lines_all : (ys : List (Line P)) → take i ls ++ log_lines r p (drop i ms) d ≡ ys → ls ≡ ys
  lines_all ys whole =
      rw (drop_all i ms h, append-nil (take i ls), take_all i ls k) at whole
