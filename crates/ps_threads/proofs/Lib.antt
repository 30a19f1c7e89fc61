pub mod TurnLaws
pub mod ServedLaws
pub mod WorkLaws
pub mod ListLaws
pub mod CrewLaws
pub mod DealLaws
pub mod SeatLaws
pub mod RunLaws
