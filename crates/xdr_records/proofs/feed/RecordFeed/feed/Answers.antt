use Rattle.std.proofs.Common.{◌≡◌, ◌++◌, ◌-◌, List, ℕ, false, length, take, drop, ap, sym, subst, ◌∙◌, arith}
use Rattle.std.proofs.lemmas.List.{take_rest}
use Rattle.std.proofs.lemmas.Result.{on_ok_weaker}
use Rattle.xdr_records.specs.Record.{Begun, IsPart, IsRecord, IsTooLong}
use Rattle.xdr_records.specs.Scan.{EndsAt}
use Rattle.xdr_records.specs.Splits.{Follows}
use Rattle.xdr_records.specs.Feed.{Feed}
use Rattle.xdr_records.proofs.Feeding.{grows_sound, breaks_sound, err_of_grows, grows_open, breaks_open, ends_behind, grows_whole, breaks_whole}
use Rattle.xdr_records.proofs.feed.RecordFeed.feed.Goals as goal

pub overflow_sub-behind : goal.overflow_sub-behind
overflow_sub-behind c =
    let rest = c.self.inside.rest.items in
    let all : c.new-bytes.result ≡ rest ++ c.args.piece.now = c.new-bytes.ensures ∙ ap (λ (x : List ℕ). x ++ c.args.piece.now) c.as_slice.ensures in
    let ends = subst (λ (x : List ℕ). EndsAt c.in-Whole.end c.in-Whole.size x) all c.in-Whole.ensures in
    let far = ends_behind rest c.args.piece.now c.in-Whole.end c.in-Whole.size c.self.inside.passed c.self.inside.size c.self.invariant ends in
    omega (arith, c.len.ensures.value)

pub returns-in_ok-extend_from_slice-in-Open-clause-ok : goal.returns-in_ok-extend_from_slice-in-Open-clause-ok
returns-in_ok-extend_from_slice-in-Open-clause-ok c =
    let old = c.args.self.now in
    let rest_is : c.self.inside.rest.items ≡ old.rest = ap (λ (f : Feed). f.rest) c.self.view_is in
    let all : c.new-bytes.result ≡ old.rest ++ c.args.piece.now = c.new-bytes.ensures ∙ ap (λ (x : List ℕ). x ++ c.args.piece.now) (c.as_slice.ensures ∙ rest_is) in
    let sound : old.broken ≡ false = sym (ap (λ (f : Feed). f.broken) c.self.view_is) ∙ c.if-self.false in
    let begun = subst (λ (x : List ℕ). Begun IsPart c.in-Open.passed c.in-Open.size x) all c.in-Open.ensures in
    grows_open old _ c.args.piece.now c.in-Open.passed c.in-Open.size sound begun (ap (λ (f : Feed). f.waiting) c.self.view_is)
    (c.in_ok-extend_from_slice-in-Open.ensures.ok ∙ ap (λ (x : List ℕ). x ++ c.args.piece.now) rest_is) c.if-self.false

pub returns-in-TooLong-clause-too_long : goal.returns-in-TooLong-clause-too_long
returns-in-TooLong-clause-too_long c =
    let old = c.args.self.now in
    let all : c.new-bytes.result ≡ old.rest ++ c.args.piece.now =
    c.new-bytes.ensures ∙ ap (λ (x : List ℕ). x ++ c.args.piece.now) (c.as_slice.ensures ∙ ap (λ (f : Feed). f.rest) c.self.view_is) in
    λ _ sound. breaks_open old _ c.args.piece.now sound (subst IsTooLong all c.in-TooLong.ensures) c.stop.ensures

pub returns-in_ok-split-in-Whole-clause-ok : goal.returns-in_ok-split-in-Whole-clause-ok
returns-in_ok-split-in-Whole-clause-ok c =
    let old = c.args.self.now in
    let piece = c.args.piece.now in
    let from = c.in-Whole.end - c.len.result in
    let behind = take (length piece - from) (drop from piece) in
    let used = c.in_ok-split-in-Whole.split.used in
    let rest_is : c.self.inside.rest.items ≡ old.rest = ap (λ (f : Feed). f.rest) c.self.view_is in
    let all : c.new-bytes.result ≡ old.rest ++ piece = c.new-bytes.ensures ∙ ap (λ (x : List ℕ). x ++ piece) (c.as_slice.ensures ∙ rest_is) in
    let sound : old.broken ≡ false = sym (ap (λ (f : Feed). f.broken) c.self.view_is) ∙ c.if-self.false in
    let invariant = subst (λ (x : List ℕ). Begun IsPart c.self.inside.passed c.self.inside.size x) rest_is c.self.invariant in
    let ends = subst (λ (x : List ℕ). EndsAt c.in-Whole.end c.in-Whole.size x) all c.in-Whole.ensures in
    let long = ends_behind old.rest piece c.in-Whole.end c.in-Whole.size c.self.inside.passed c.self.inside.size invariant ends in
    let whole = subst (λ (x : List ℕ). IsRecord (take c.in-Whole.end x) c.in_ok-first-in-Whole.first.items) all c.in_ok-first-in-Whole.ensures in
    let count : c.len.result ≡ length old.rest = c.len.ensures.value ∙ ap length rest_is in
    let behind_is : behind ≡ drop (c.in-Whole.end - length old.rest) piece = take_rest piece from ∙ ap (λ (n : ℕ). drop (c.in-Whole.end - n) piece) count in
    let follows = subst (λ (x : List ℕ). Follows x behind used c.in_ok-split-in-Whole.split.records.items) c.new.ensures c.in_ok-split-in-Whole.ensures.whole in
    on_ok_weaker c.keep.result
    (grows_whole old c.keep.new.self piece behind (take (length behind - used) (drop used behind)) c.in_ok-first-in-Whole.first.items c.in-Whole.end used c.in_ok-split-in-Whole.split.records.items c.in_ok-split-in-Whole.split.begun
    sound long whole behind_is (take_rest behind used) follows c.in_ok-split-in-Whole.ensures.begun)
    c.keep.ensures.ok

pub returns-in_ok-split-in-Whole-clause-too_long : goal.returns-in_ok-split-in-Whole-clause-too_long
returns-in_ok-split-in-Whole-clause-too_long c =
    let old = c.args.self.now in
    let piece = c.args.piece.now in
    let from = c.in-Whole.end - c.len.result in
    let behind = take (length piece - from) (drop from piece) in
    let used = c.in_ok-split-in-Whole.split.used in
    let rest_is : c.self.inside.rest.items ≡ old.rest = ap (λ (f : Feed). f.rest) c.self.view_is in
    let all : c.new-bytes.result ≡ old.rest ++ piece = c.new-bytes.ensures ∙ ap (λ (x : List ℕ). x ++ piece) (c.as_slice.ensures ∙ rest_is) in
    let invariant = subst (λ (x : List ℕ). Begun IsPart c.self.inside.passed c.self.inside.size x) rest_is c.self.invariant in
    let ends = subst (λ (x : List ℕ). EndsAt c.in-Whole.end c.in-Whole.size x) all c.in-Whole.ensures in
    let long = ends_behind old.rest piece c.in-Whole.end c.in-Whole.size c.self.inside.passed c.self.inside.size invariant ends in
    let whole = subst (λ (x : List ℕ). IsRecord (take c.in-Whole.end x) c.in_ok-first-in-Whole.first.items) all c.in_ok-first-in-Whole.ensures in
    let count : c.len.result ≡ length old.rest = c.len.ensures.value ∙ ap length rest_is in
    let behind_is : behind ≡ drop (c.in-Whole.end - length old.rest) piece = take_rest piece from ∙ ap (λ (n : ℕ). drop (c.in-Whole.end - n) piece) count in
    let follows = subst (λ (x : List ℕ). Follows x behind used c.in_ok-split-in-Whole.split.records.items) c.new.ensures c.in_ok-split-in-Whole.ensures.whole in
    λ is sound.
    breaks_whole old c.keep.new.self piece behind (take (length behind - used) (drop used behind)) c.in_ok-first-in-Whole.first.items c.in-Whole.end used c.in_ok-split-in-Whole.split.records.items c.in_ok-split-in-Whole.split.begun
    sound long whole behind_is (take_rest behind used) follows c.in_ok-split-in-Whole.ensures.begun
    (c.keep.ensures.too_long is)

pub returns-in_ok-extend_from_slice-in-Open-clause-found : goal.returns-in_ok-extend_from_slice-in-Open-clause-found
returns-in_ok-extend_from_slice-in-Open-clause-found c =
    λ records stop split. absurd (grows_sound c.args.self.now _ c.args.piece.now (returns-in_ok-extend_from_slice-in-Open-clause-ok c) records stop split)

pub returns-in_ok-split-in-Whole-clause-found : goal.returns-in_ok-split-in-Whole-clause-found
returns-in_ok-split-in-Whole-clause-found c =
    λ records stop split. err_of_grows c.keep.result c.args.self.now c.keep.new.self c.args.piece.now (returns-in_ok-split-in-Whole-clause-ok c) records stop split

pub returns-in-TooLong-clause-only : goal.returns-in-TooLong-clause-only
returns-in-TooLong-clause-only c =
    λ records rest sound split is. breaks_sound c.args.self.now _ c.args.piece.now (returns-in-TooLong-clause-too_long c is sound) records rest split

pub returns-in_ok-split-in-Whole-clause-only : goal.returns-in_ok-split-in-Whole-clause-only
returns-in_ok-split-in-Whole-clause-only c =
    λ records rest sound split is. breaks_sound c.args.self.now _ c.args.piece.now (returns-in_ok-split-in-Whole-clause-too_long c is sound) records rest split
