use Rattle.std.proofs.Common.{rules, ◌≡◌, ◌+◌, length, refl, sym, ap, ◌∙◌, subst, vec_len, arith}
use Rattle.ps_desk.specs.Seats.{desk_of, view_of}
use Rattle.ps_book.specs.Books.{entries}
use Rattle.ps_threads.specs.Served.{AreBack}
use Rattle.ps_threads.specs.Worked.{AreIdle}
use Rattle.ps_threads.specs.Lent.{Came}
use Rattle.ps_threads.specs.Runs.{IsRunOf}
use Rattle.ps_threads.proofs.RunLaws.{jobs_at, seats_at, are_back, all_serve, run_is}
use Rattle.ps_threads.proofs.runs.run_beside.Goals as goal

pub beside-done-requires-clause-idle : goal.beside-done-requires-clause-idle
beside-done-requires-clause-idle g c κs within =
    let mid = c.seat_all-jobs.new.first in
    seats_at c.in-Ok.desk (desk_of mid) (view_of mid).next c.seat_more-idle.result.items (c.seat_all-jobs.ensures.desk ∙ c.in-Ok.ensures.seat.0)
    c.seat_more-idle.ensures.seats

pub beside-done-requires-clause-jobs : goal.beside-done-requires-clause-jobs
beside-done-requires-clause-jobs g c κs within =
    let lines = c.into_vec.result.items in
    jobs_at lines c.in-Ok.desk (desk_of c.in-Ok.first) c.seat_all-jobs.result.items c.in-Ok.ensures.seat.0
    (c.seat_all-jobs.ensures.jobs lines c.in_ok-dealt.ensures.dealt)

pub take_back-ending-requires-clause-done : goal.take_back-ending-requires-clause-done
take_back-ending-requires-clause-done g c =
    let lines = c.into_vec.result.items in
    let jobs = c.seat_all-jobs.result.items in
    let seats = c.seat_more-idle.result.items in
    let fs = c.beside-done.result.items in
    let table = desk_of c.in-Ok.first in
    let mid = c.seat_all-jobs.new.first in
    let sixteen : vec_len c.seat_all-jobs.result ≡ 16 = c.seat_all-jobs.ensures.len ∙ c.in_ok-dealt.ensures.len in
    let next : (view_of mid).next ≡ 17 = omega (arith, c.seat_all-jobs.ensures.next, c.in_ok-dealt.ensures.len) in
    let idle : AreIdle table 17 seats =
    subst (λ t. AreIdle t 17 seats) c.seat_all-jobs.ensures.desk (subst (λ n. AreIdle (desk_of mid) n seats) next c.seat_more-idle.ensures.seats) in
    let all : length jobs ≡ 16 = omega (arith, sixteen, c.seat_all-jobs.result.ok.0) in
    let len : length fs ≡ 16 + length seats =
    omega (arith, sixteen, c.beside-done.ensures.len, c.beside-done.result.ok.0, c.seat_more-idle.result.ok.0) in
    subst (λ t. AreBack t fs) (sym (c.seat_more-idle.ensures.desk ∙ c.seat_all-jobs.ensures.desk))
    (are_back lines table (vec_len c.seat_all-jobs.result) jobs seats fs (c.seat_all-jobs.ensures.jobs lines c.in_ok-dealt.ensures.dealt) idle
    c.beside-done.ensures.sessions c.beside-done.ensures.workers sixteen all len)

pub returns : goal.returns
returns g c =
    let lines = c.into_vec.result.items in
    let jobs = c.seat_all-jobs.result.items in
    let seats = c.seat_more-idle.result.items in
    let fs = c.beside-done.result.items in
    let table = desk_of c.in-Ok.first in
    let mid = c.seat_all-jobs.new.first in
    let sixteen : vec_len c.seat_all-jobs.result ≡ 16 = c.seat_all-jobs.ensures.len ∙ c.in_ok-dealt.ensures.len in
    let next : (view_of mid).next ≡ 17 = omega (arith, c.seat_all-jobs.ensures.next, c.in_ok-dealt.ensures.len) in
    let idle : AreIdle table 17 seats =
    subst (λ t. AreIdle t 17 seats) c.seat_all-jobs.ensures.desk (subst (λ n. AreIdle (desk_of mid) n seats) next c.seat_more-idle.ensures.seats) in
    let all : length jobs ≡ 16 = omega (arith, sixteen, c.seat_all-jobs.result.ok.0) in
    let len : length fs ≡ 16 + length seats =
    omega (arith, sixteen, c.beside-done.ensures.len, c.beside-done.result.ok.0, c.seat_more-idle.result.ok.0) in
    let serve =
    all_serve lines table (vec_len c.seat_all-jobs.result) jobs seats fs (c.seat_all-jobs.ensures.jobs lines c.in_ok-dealt.ensures.dealt) idle
    c.beside-done.ensures.sessions c.beside-done.ensures.workers sixteen all len in
    let count : vec_len c.beside-done.result ≡ 16 + c.args.workers =
    omega (arith, sixteen, c.beside-done.ensures.len, c.seat_more-idle.ensures.len) in
    let v = view_of c.take_back-ending.new.first in
    let back = c.take_back-ending.ensures in
    let inner : c.into_inner.result ≡ c.in-Ok-close.held.book.value = search rules in
    subst (λ ls. IsRunOf ls c.args.workers record { journal = c.from_vec.result; ending = c.take_back-ending.result }) c.into_vec.ensures
    (run_is lines c.args.workers v (entries c.in-Ok-close.held.book.value) c.in-Ok-close.ensures.closed back.lends.own c.take_back-ending.result
    (subst (λ n. Came lines n c.take_back-ending.result v.ended) count (back.came lines serve)) (back.len ∙ count)
    record { journal = c.from_vec.result; ending = c.take_back-ending.result } (c.from_vec.ensures ∙ c.into_journal.ensures.value ∙ ap entries inner) refl)
