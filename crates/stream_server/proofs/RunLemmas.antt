-- Runs grow at their end: a part of a run that goes on, and then another from the list that it leads to.
use Rattle.stream_server.proofs.Common.{◌≡◌, List, [], ◌∷◌, ◌++◌, refl, sym, ap, ◌∙◌, subst, Command, CommandList, ◌▸◌, followed_by, one, reply_text, Exchange}
use Rattle.stream_server.proofs.Common.{messages_of, accepted_in, texts_of, Answering, IsRun, GoesOn}
use Rattle.std.proofs.lemmas.List.{map-append}
use Rattle.std.proofs.lemmas.List.Concat.{flat_map-append}

pub followed_append : (h : CommandList) (cs ds : List Command) → followed_by h (cs ++ ds) ≡ followed_by (followed_by h cs) ds
followed_append h [] ds = refl
followed_append h (c ∷ cs) ds = followed_append (h ▸ c) cs ds

pub accepted_append : (xs ys : List Exchange) → accepted_in (xs ++ ys) ≡ accepted_in xs ++ accepted_in ys
accepted_append xs ys = flat_map-append (λ (x : Exchange). one x.accepted) xs ys

pub texts_append : (xs ys : List Exchange) → texts_of (xs ++ ys) ≡ texts_of xs ++ texts_of ys
texts_append xs ys = flat_map-append (λ (x : Exchange). reply_text x.message x.reply) xs ys

pub messages_append : (xs ys : List Exchange) → messages_of (xs ++ ys) ≡ messages_of xs ++ messages_of ys
messages_append xs ys = map-append (λ (x : Exchange). x.message) xs ys

pub run_append : (A : Answering) (h : CommandList) (xs ys : List Exchange) → IsRun A h xs → GoesOn xs → IsRun A (followed_by h (accepted_in xs)) ys
    → IsRun A h (xs ++ ys)
run_append A h [] ys run goes more = more
run_append A h (x ∷ xs) ys run goes more =
    let k : CommandList = followed_by h (one x.accepted) in
    let rest : IsRun A (followed_by k (accepted_in xs)) ys = subst (λ (l : CommandList). IsRun A l ys) (followed_append h (one x.accepted) (accepted_in xs))
    more in
    (run.0, λ store. absurd (goes.0 store), run_append A k xs ys run.2 goes.1 rest)

pub goes_append : (xs ys : List Exchange) → GoesOn xs → GoesOn ys → GoesOn (xs ++ ys)
goes_append [] ys a b = b
goes_append (x ∷ xs) ys a b = (a.0, goes_append xs ys a.1 b)

-- the list that two parts of a run lead to, one after the other
pub led : (h : CommandList) (xs ys : List Exchange) → followed_by (followed_by h (accepted_in xs)) (accepted_in ys) ≡ followed_by h (accepted_in (xs ++ ys))
led h xs ys = sym (followed_append h (accepted_in xs) (accepted_in ys)) ∙ ap (followed_by h) (sym (accepted_append xs ys))
