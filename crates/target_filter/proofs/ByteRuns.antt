-- Runs of bytes that pass a test.
use Rattle.target_filter.proofs.Common.{◌≡◌, ℕ, ◌<◌, List, [], length, take, drop, get_or, Bool, true, false, not, refl, sym, ◌∙◌, ap}
use Rattle.target_filter.proofs.Common.{append-nil, drop-cons, list_all, take-append-drop, front, behind_front}
use Rattle.target_filter.proofs.ParsedTrees.{stops, fronts, pasts}

stops_at : (p : ℕ → Bool) (text : List ℕ) (k : ℕ) → k < length text → p (get_or text k 0) ≡ false → stops p (drop k text) ≡ true
stops_at p text k l e = ap (stops p) (drop-cons text k 0 l) ∙ ap not e

pub front_to : (p : ℕ → Bool) (text : List ℕ) (k : ℕ) → k < length text → list_all p (take k text) ≡ true → p (get_or text k 0) ≡ false → take k text
    ≡ front p text
front_to p text k l h e = sym (ap (front p) (sym (take-append-drop k text)) ∙ fronts p (take k text) (drop k text) h (stops_at p text k l e))

pub behind_to : (p : ℕ → Bool) (text : List ℕ) (k : ℕ) → k < length text → list_all p (take k text) ≡ true → p (get_or text k 0) ≡ false → drop k text
    ≡ behind_front p text
behind_to p text k l h e = sym (ap (behind_front p) (sym (take-append-drop k text)) ∙ pasts p (take k text) (drop k text) h (stops_at p text k l e))

pub front_all : (p : ℕ → Bool) (text : List ℕ) → list_all p text ≡ true → text ≡ front p text
front_all p text h = sym (ap (front p) (sym (append-nil text)) ∙ fronts p text [] h refl)

pub behind_all : (p : ℕ → Bool) (text : List ℕ) → list_all p text ≡ true → [] ≡ behind_front p text
behind_all p text h = sym (ap (behind_front p) (sym (append-nil text)) ∙ pasts p text [] h refl)
