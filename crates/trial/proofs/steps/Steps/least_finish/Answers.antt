-- `trial::steps::Steps::least_finish` meets its contract: the chain goes over the numbers of all orders. Assumes nothing.
use Rattle.std.specs.Prelude.{◌≡◌, List, [], ◌∷◌, ℕ, ◌<◌, get_or, length, take}
use Rattle.std.proofs.Common.{arith, rules, ap, length-take-le, subst, sym, ◌∙◌}
use Rattle.std.proofs.lemmas.Iterator.{YieldsList-from_map, YieldsList-from_range}
use Rattle.std.proofs.lemmas.Iterator.Consumers.{min_from_yields_List}
use Rattle.std.proofs.lemmas.Iterator.Adapters.{option_map_id}
use Rattle.trial.specs.declared.steps.Step.{Step}
use Rattle.trial.specs.Orders.{arranged}
use Rattle.trial.specs.Finish.{finish_from}
use Rattle.trial.proofs.Orders.{orders_of, orders_listed, orders_some}
use Rattle.trial.proofs.Finish.{least_finish}
use Rattle.trial.proofs.steps.Steps.least_finish.Goals as goal

-- the finish of the order with a number
numbered :
    (n count : ℕ) (list xs : List Step) → n ≡ count → take count list ≡ xs → finish_from 0 (take n list) ≡ finish_from 0 xs
numbered n count list xs e h = rw e (ap (finish_from 0) h)

pub returns : goal.returns
returns c =
    let steps = take c.args.self.now.count c.args.self.now.list in
    let orders : ℕ = get_or (1 ∷ 1 ∷ 2 ∷ 6 ∷ 24 ∷ 120 ∷ 720 ∷ []) c.args.self.now.count 0 in
    let finish = λ (number : ℕ). finish_from 0 (arranged steps number) in
    let inside = c.args.self.now.inside in
    let room : length c.args.self.now.list ≡ 6 = search rules in
    let long : length steps ≡ c.args.self.now.count = length-take-le _ _ (omega arith) in
    let many : orders ≡ orders_of (length steps) = orders_listed _ inside ∙ ap orders_of (sym long) in
    let numbers = YieldsList-from_range _ _ orders c.map.ensures.source (omega arith) in
    let least =
    min_from_yields_List _ c.min.result c.min.ensures.ran
    (YieldsList-from_map _ finish numbers c.map.ensures.closure (λ x r q k. search (rules, numbered))) in
    let some : 0 < orders = subst (λ n. 0 < n) (sym many) (orders_some _) in
    rw c.unwrap_or.ensures (least_finish steps orders c.min.result many some (sym (option_map_id _) ∙ least))
