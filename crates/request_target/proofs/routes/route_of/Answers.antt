use Rattle.request_target.proofs.Common.{◌≡◌, ◌∙◌, ℕ, true, sym, ap}
use Rattle.std.proofs.Math.Facts.{Fits-lt-pow}
use Rattle.request_target.proofs.Meets.{all_bytes}
use Rattle.request_target.proofs.Found.{all_bytes_from}
use Rattle.request_target.proofs.TableRows.{value_of, first-rows_with}
use Rattle.request_target.proofs.routes.route_of.Goals as goal

pub returns-in-Ok : goal.returns-in-Ok
returns-in-Ok g c = λ table routes is.
    let bytes : all_bytes c.args.path.now ≡ true = all_bytes_from c.args.path.now (λ (i : ℕ). Fits-lt-pow (c.type_inv.path i)) in
    sym (ap value_of c.in-Ok.ensures.found) ∙ first-rows_with table c.args.router.now c.args.path.now bytes routes is

pub returns-in-Err : goal.returns-in-Err
returns-in-Err g c = λ table routes is.
    let bytes : all_bytes c.args.path.now ≡ true = all_bytes_from c.args.path.now (λ (i : ℕ). Fits-lt-pow (c.type_inv.path i)) in
    sym (ap value_of c.in-Err.ensures.missing) ∙ first-rows_with table c.args.router.now c.args.path.now bytes routes is
