mod Loading
mod Histories
