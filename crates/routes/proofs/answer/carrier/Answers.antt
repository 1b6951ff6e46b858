-- `routes::answer::carrier` meets its contract: each route has its rule.
-- Assumes nothing.
use Rattle.routes.proofs.answer.carrier.Goals as goal

pub returns-in-Labels : goal.returns-in-Labels
returns-in-Labels c = rw c.in-Labels.is c.by_labels.ensures

pub returns-in-Tour : goal.returns-in-Tour
returns-in-Tour c = rw c.in-Tour.is c.by_tour.ensures

pub returns-in-Lifts : goal.returns-in-Lifts
returns-in-Lifts c = rw c.in-Lifts.is c.by_lifts.ensures
