-- Which line may stand behind which.
use Rattle.std.proofs.Common.{◌≡◌, ℕ, ◌≤◌, true, false, List, [], ◌∷◌, ◌++◌, length, Option, Some, None, refl, arith, subst}
use Rattle.plan_text.specs.declared.plan.Step.{Step}
use Rattle.plan_text.specs.declared.plan.Step.TheVariants.{Lane, Go, Crash}
use Rattle.plan_text.specs.declared.plan.Plan.{Plan}
use Rattle.plan_text.specs.declared.line.Line.{Line}
use Rattle.plan_text.specs.declared.line.Line.TheVariants as lines
use Rattle.plan_text.specs.PlanText.{AreRun}
use Rattle.plan_text.specs.Line.{Follows, AreInOrder, NotEnd, awaits, needed, last_of}
use Rattle.plan_text.specs.Draft.{step_list, behind_first}
use Rattle.plan_text.proofs.Listed.{lines_of}

-- what stands in order stands behind the last one ahead of it
pub follows_last : (l next : Line) (done tail : List Line) → AreInOrder l (done ++ next ∷ tail) → Follows (last_of l done) next
follows_last l next [] tail h = h.0
follows_last l next (d ∷ done) tail h = follows_last d next done tail h.1

pub in_order_behind : (l next : Line) (done tail : List Line) → AreInOrder l (done ++ next ∷ tail) → AreInOrder next tail
in_order_behind l next [] tail h = h.1
in_order_behind l next (d ∷ done) tail h = in_order_behind d next done tail h.1

pub last-append : (l : Line) (xs ys : List Line) → last_of l (xs ++ ys) ≡ last_of (last_of l xs) ys
last-append l [] ys = refl
last-append l (x ∷ xs) ys = last-append x xs ys

pub in_order_push : (l next : Line) (done : List Line) → AreInOrder l done → Follows (last_of l done) next → AreInOrder l (done ++ next ∷ [])
in_order_push l next [] h f = (f, tt)
in_order_push l next (d ∷ done) h f = (h.0, in_order_push d next done h.1 f)

-- steps whose lane lines are followed by `go` stand in order
steps_in_order : (s : Step) (steps : List Step) → AreRun (s ∷ steps) → AreInOrder (lines.Step s) (step_list steps ++ lines.End ∷ [])
steps_in_order (Lane s) [] h = absurd h
steps_in_order (Lane s) (Crash k ∷ steps) h = absurd h
steps_in_order (Lane s) (Lane t ∷ steps) h = (tt, steps_in_order (Lane t) steps h)
steps_in_order (Lane s) (Go ∷ steps) h = (tt, steps_in_order Go steps h)
steps_in_order Go [] h = ((tt, refl), tt)
steps_in_order Go (Lane t ∷ steps) h = (tt, steps_in_order (Lane t) steps h)
steps_in_order Go (Go ∷ steps) h = (tt, steps_in_order Go steps h)
steps_in_order Go (Crash k ∷ steps) h = ((tt, refl), steps_in_order (Crash k) steps h)
steps_in_order (Crash j) [] h = ((tt, refl), tt)
steps_in_order (Crash j) (Lane t ∷ steps) h = (tt, steps_in_order (Lane t) steps h)
steps_in_order (Crash j) (Go ∷ steps) h = (tt, steps_in_order Go steps h)
steps_in_order (Crash j) (Crash k ∷ steps) h = ((tt, refl), steps_in_order (Crash k) steps h)

behind_head : (ahead : Line) (steps : List Step) → NotEnd ahead → awaits ahead ≡ false → AreRun steps → AreInOrder ahead (step_list steps ++ lines.End ∷ [])
behind_head ahead [] goes idle h = ((goes, idle), tt)
behind_head ahead (Lane s ∷ steps) goes idle h = (goes, steps_in_order (Lane s) steps h)
behind_head ahead (Go ∷ steps) goes idle h = (goes, steps_in_order Go steps h)
behind_head ahead (Crash k ∷ steps) goes idle h = ((goes, idle), steps_in_order (Crash k) steps h)

pub parts_in_order : (append barrier : Option ℕ) (steps : List Step) → AreRun steps → AreInOrder lines.First (behind_first append barrier steps ++ lines.End ∷ [])
parts_in_order None None steps h = behind_head lines.First steps tt refl h
parts_in_order None (Some b) steps h = (tt, behind_head (lines.BarrierFault b) steps tt refl h)
parts_in_order (Some a) None steps h = (tt, behind_head (lines.AppendFault a) steps tt refl h)
parts_in_order (Some a) (Some b) steps h = (tt, (tt, behind_head (lines.BarrierFault b) steps tt refl h))

-- and the other way round
steps_run : (ahead : Line) (steps : List Step) → AreInOrder ahead (step_list steps ++ lines.End ∷ []) → AreRun steps
steps_run ahead [] h = tt
steps_run ahead (Lane s ∷ []) h = absurd (let e : true ≡ false = h.1.0.1 in cc)
steps_run ahead (Lane s ∷ Crash k ∷ steps) h = absurd (let e : true ≡ false = h.1.0.1 in cc)
steps_run ahead (Lane s ∷ Lane t ∷ steps) h = steps_run (lines.Step (Lane s)) (Lane t ∷ steps) h.1
steps_run ahead (Lane s ∷ Go ∷ steps) h = steps_run (lines.Step (Lane s)) (Go ∷ steps) h.1
steps_run ahead (Go ∷ steps) h = steps_run (lines.Step Go) steps h.1
steps_run ahead (Crash k ∷ steps) h = steps_run (lines.Step (Crash k)) steps h.1

pub parts_run : (append barrier : Option ℕ) (steps : List Step) → AreInOrder lines.First (behind_first append barrier steps ++ lines.End ∷ []) → AreRun steps
parts_run None None steps h = steps_run lines.First steps h
parts_run None (Some b) steps h = steps_run (lines.BarrierFault b) steps h.1
parts_run (Some a) None steps h = steps_run (lines.AppendFault a) steps h.1
parts_run (Some a) (Some b) steps h = steps_run (lines.BarrierFault b) steps h.1.1

pub last-lines_of : (plan : Plan) → last_of lines.First (lines_of plan) ≡ lines.End
last-lines_of plan = last-append lines.First (behind_first plan.append_fault plan.barrier_fault plan.steps) (lines.End ∷ [])

at_most : (l : Line) → needed l ≤ 2
at_most (lines.Step (Lane s)) = omega arith
at_most (lines.Step Go) = omega arith
at_most (lines.Step (Crash k)) = omega arith
at_most lines.First = omega arith
at_most (lines.AppendFault a) = omega arith
at_most (lines.BarrierFault b) = omega arith
at_most lines.End = omega arith

-- what has to follow a line does
pub enough : (l : Line) (tail : List Line) → AreInOrder l tail → last_of l tail ≡ lines.End → needed l ≤ length tail
enough l [] h last = rw last (omega arith)
enough l (m ∷ []) h last = one l m h.0 last
  where
    one : (l m : Line) → Follows l m → m ≡ lines.End → needed l ≤ 1
    one (lines.Step (Lane s)) m f e =
        let stops = subst (λ (x : Line). Follows (lines.Step (Lane s)) x) e f in
        absurd (let no_go : true ≡ false = stops.1 in cc)
    one (lines.Step Go) m f e = omega arith
    one (lines.Step (Crash k)) m f e = omega arith
    one lines.First m f e = omega arith
    one (lines.AppendFault a) m f e = omega arith
    one (lines.BarrierFault b) m f e = omega arith
    one lines.End m f e = omega arith
enough l (m ∷ n ∷ tail) h last = omega (arith, at_most l)

pub needed_waiting : (l : Line) → awaits l ≡ true → needed l ≡ 2
needed_waiting (lines.Step (Lane s)) h = refl
needed_waiting (lines.Step Go) h = absurd cc
needed_waiting (lines.Step (Crash k)) h = absurd cc
needed_waiting lines.First h = absurd cc
needed_waiting (lines.AppendFault a) h = absurd cc
needed_waiting (lines.BarrierFault b) h = absurd cc
needed_waiting lines.End h = absurd cc

pub needed_at_least : (l : Line) → NotEnd l → 1 ≤ needed l
needed_at_least (lines.Step (Lane s)) h = omega arith
needed_at_least (lines.Step Go) h = omega arith
needed_at_least (lines.Step (Crash k)) h = omega arith
needed_at_least lines.First h = omega arith
needed_at_least (lines.AppendFault a) h = omega arith
needed_at_least (lines.BarrierFault b) h = omega arith
needed_at_least lines.End h = absurd h
